-- The check accepts the blocks up to 64 bits: each uses only what is there before, and refers to the block of the level below, which
-- stands behind it.
use Rattle.std.specs.Prelude.{ℕ, zero, suc, ◌+◌, ◌*◌, ◌^◌, ◌≤◌, ◌≡◌, true, List, [], ◌∷◌, ◌++◌}
use Rattle.std.proofs.Math.Path.{refl}
use Rattle.std.proofs.Math.Nat.{pow-le-pow_right}
use native.Mathlib.Omega.{arith}
use Rattle.std.proofs.Common.{lit≤}
use Rattle.meaning.specs.Gates.{gate, gates}
use Rattle.meaning.specs.Members.{◌∈◌}
use Rattle.meaning.specs.Boxlist.{member, disjoint, duplicates, subset, F, assoc}
use Rattle.meaning.specs.Limits.{driven, net_count, body_size, expanded_size}
use Rattle.meaning.specs.Adder.{up_from}
use Rattle.meaning.specs.Counter.{AND, XOR, choose, block_number, pair_block, join_block, block, blocks}
use Rattle.laws.specs.WellFormed.{to_gate, OccurrenceOk, Body, done, step, ModuleOk, Accepted, none, some}
use Rattle.laws.specs.Members.{here, there}
use Rattle.laws.specs.Adder.Nets.{length-up_from}
use Rattle.laws.specs.Adder.Distinct.{not_of-run, duplicates-of-run, disjoint-run}
use Rattle.laws.specs.Flatten.Numbered.{of-run}
use Rattle.laws.specs.Counter.Numbered.{block-number, past-blocks}
use Rattle.laws.specs.Counter.Totals.{total-of-join}
use Rattle.laws.specs.Counter.Lengths.{driven-total, weighs-nets}
use Rattle.laws.specs.Counter.Reached.{block_size}
use Rattle.laws.specs.Counter.Signals.{Filled, filled_row, filled-inputs, after, after_both, body-both, row-driven, gate-ok}
use Rattle.laws.specs.Counter.ChoiceOk.{Around, around-filled, choice_body, choice_filled}
use Rattle.laws.specs.Counter.ReferenceOk.{assoc-past, size-first, reference-ok}

-- Two halves, the row that chooses, and the last two gates.
module _ (k j : ℕ) (level : j ≤ k) where
  abbrev low : ℕ
  low = 2 * 2 ^ j

  abbrev high : ℕ
  high = low + suc j

  abbrev ands : ℕ
  ands = high + suc j

  abbrev top : ℕ
  top = ands + j + j

  abbrev halves : List ℕ
  halves = up_from high (suc j) ++ (up_from low (suc j) ++ up_from 0 low)

  low_half : Filled high (up_from low (suc j) ++ up_from 0 low)
  low_half = filled_row (suc j) (filled-inputs low)

  around : Around ands top top halves
  around = around-filled top (omega arith) (filled_row (suc j) low_half)

  abbrev chosen : List ℕ
  chosen = after (choose (high + j) high low ands (ands + j) j) halves

  filled_up : Filled top chosen
  filled_up = choice_filled (high + j) high low ands j around (omega arith)

  half-ok : {nets : List ℕ} (to from : ℕ) → Filled to nets → from + 2 ^ j ≤ to
      → OccurrenceOk (blocks k) nets (record { drives = up_from to (suc j); refers = block_number j; takes = up_from from (2 ^ j) })
  half-ok to from filled fits =
      reference-ok k j from (up_from to (suc j)) level (length-up_from to (suc j)) (duplicates-of-run to (suc j))
      (λ x i k. omega (arith, of-run to (suc j) i, filled.are x k))
      (λ x f g. filled.all x (omega arith))

  top-fresh : ¬ (top ∈ (suc top ∷ chosen))
  top-fresh (here e) = omega arith
  top-fresh (there i) = omega (arith, filled_up.are top i)

  join-body : Body (blocks k) (up_from 0 low) (join_block j).occurrences
  unfolding join_block gate gates
  join-body =
      step (half-ok low 0 (filled-inputs low) (omega arith))
      (step (half-ok high (2 ^ j) low_half (omega arith))
      (body-both (choice_body (high + j) high low ands j around (around.lower (high + j) (omega arith)) (omega arith) (omega arith))
      (step
      (gate-ok (suc top) AND (high + j) (low + j) refl refl (λ i. omega (arith, filled_up.are (suc top) i))
      (filled_up.all (high + j) (omega arith)) (filled_up.all (low + j) (omega arith)))
      (step
      (gate-ok top XOR (high + j) (suc top) refl refl top-fresh (there (filled_up.all (high + j) (omega arith))) (here refl))
      done))))

  outputs-driven : subset (up_from (ands + j) (j + 2)) (driven (join_block j).occurrences) ≡ true
  unfolding join_block after up_from
  outputs-driven =
      row-driven {n = top + 2} (join_block j).occurrences (ands + j) (j + 2) (filled-inputs low)
      (rw (after_both (choose (high + j) high low ands (ands + j) j)) (filled_row 2 filled_up))
      (omega arith) (omega arith)

  -- With at most 64 bits.
  join-ok : j ≤ 5 → assoc (33 + j) (blocks k) ≡ F → body_size (expanded_size (blocks k)) (join_block j).occurrences ≤ 65535
      → ModuleOk (join_block j) (blocks k)
  unfolding join_block net_count
  join-ok few unique size =
      let half : 2 ^ j ≤ 32 = pow-le-pow_right (omega arith) few in
      record {
        above = omega arith;
        unique = unique;
        inputs_distinct = duplicates-of-run 0 low;
        outputs_distinct = duplicates-of-run (ands + j) (j + 2);
        apart =
            disjoint-run 0 low (up_from (ands + j) (j + 2))
            (λ y f g. not_of-run y (ands + j) (j + 2) (λ x least most. omega arith));
        body = join-body;
        outputs_driven = outputs-driven;
        nets =
            omega (
              arith,
              length-up_from 0 low,
              driven-total (join_block j).occurrences,
              total-of-join (weighs-nets j) j (omega arith),
            );
        size = size;
      }

pair_ok : ModuleOk pair_block []
unfolding duplicates disjoint subset member assoc gate gates driven net_count body_size
pair_ok =
    record {
      above = lit≤ tt;
      unique = refl;
      inputs_distinct = refl;
      outputs_distinct = refl;
      apart = refl;
      body =
          step (record { distinct = refl; fresh = refl; bound = refl; reference = to_gate refl refl refl })
          (step (record { distinct = refl; fresh = refl; bound = refl; reference = to_gate refl refl refl }) done);
      outputs_driven = refl;
      nets = lit≤ tt;
      size = lit≤ tt;
    }

block-unique : (k : ℕ) → assoc (33 + k) (blocks k) ≡ F
unfolding assoc
block-unique k = past-blocks (λ ms x. assoc x ms) assoc-past k (33 + k) (λ i h e. omega arith)

block-small : (i : ℕ) → i ≤ 5 → body_size (expanded_size (blocks i)) (block i).occurrences ≤ 65535
unfolding blocks
block-small i h =
    let half : 2 ^ i ≤ 32 = pow-le-pow_right (omega arith) h in
    rw (size-first (block i) (blocks i) (33 + i) (omega (arith, block-number i))) (omega (arith, block_size (suc i) i (omega arith)))

block-ok : (i : ℕ) → i ≤ 5 → ModuleOk (block i) (blocks i)
unfolding blocks block
block-ok zero h = pair_ok
block-ok (suc j) h =
    let i = suc j in
    join-ok i i (omega arith) h (block-unique i) (block-small i h)

pub blocks-accepted : (k : ℕ) → k ≤ 6 → Accepted (blocks k)
unfolding blocks
blocks-accepted zero h = none
blocks-accepted (suc i) h = some (block-ok i (omega arith)) (blocks-accepted i (omega arith))
