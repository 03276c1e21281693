-- A reference to a block, on a row of nets, keeps the rules of occurrences: the block stands among the blocks behind, with as many
-- inputs and outputs as its level says.
use Rattle.std.specs.Prelude.{ℕ, zero, suc, ◌+◌, ◌^◌, ◌≤◌, ◌<◌, ◌≡◌, refl, false, List, ◌∷◌, length}
use Rattle.std.proofs.Common.{◌∙◌, arith, eq-eqb, ne_eqb, le-ltb}
use Rattle.meaning.specs.Syntax.{Module}
use Rattle.meaning.specs.Gates.{gate, gates}
use Rattle.meaning.specs.Members.{◌∈◌}
use Rattle.meaning.specs.Boxlist.{duplicates, box, assoc}
use Rattle.meaning.specs.Limits.{body_size, expanded_size}
use Rattle.meaning.specs.Adder.{up_from}
use Rattle.meaning.specs.Counter.{block_number, block, blocks}
use Rattle.laws.specs.WellFormed.{Reference, to_gate, to_module, OccurrenceOk}
use Rattle.laws.specs.Tests.{is_true}
use Rattle.laws.specs.Members.{disjoint-tells, subset-tells}
use Rattle.laws.specs.Adder.Nets.{length-up_from}
use Rattle.laws.specs.Flatten.Numbered.{of-run}
use Rattle.laws.specs.Counter.Numbered.{block-number, block-inputs, block-outputs, at_block}

-- A number finds the first module that has it.
pub assoc-past : (m : Module) (ms : List Module) (x : ℕ) → (x ≡ m.number → ⊥) → assoc x (m ∷ ms) ≡ assoc x ms
unfolding assoc
assoc-past m ms x other = rw (ne_eqb x m.number other)

assoc-first : (m : Module) (ms : List Module) (x : ℕ) → x ≡ m.number → assoc x (m ∷ ms) ≡ box m
unfolding assoc
assoc-first m ms x same = rw (eq-eqb x m.number same)

pub size-first : (m : Module) (ms : List Module) (x : ℕ) → x ≡ m.number
    → body_size (expanded_size ms) m.occurrences ≡ expanded_size (m ∷ ms) x
unfolding expanded_size
size-first m ms x same = rw (eq-eqb x m.number same)

-- A reference to a block, on a row of nets.
block-reference : (k j : ℕ) → j ≤ k → (drives takes : List ℕ) → length drives ≡ suc j → length takes ≡ 2 ^ j
    → Reference (blocks k) (record { drives = drives; refers = block_number j; takes = takes })
unfolding block_number gate gates
block-reference k zero h drives takes d t = to_gate refl (omega arith) (omega arith)
block-reference k (suc i) h drives takes d t =
    to_module (block i) (le-ltb (33 + i) 16 (omega arith))
    (at_block (λ ms x. assoc x ms) assoc-past k i h ∙ assoc-first (block i) (blocks i) (33 + i) (omega (arith, block-number i)))
    (omega (arith, block-inputs i)) (omega (arith, block-outputs i))

pub reference-ok : {nets : List ℕ} (k j from : ℕ) (drives : List ℕ) → j ≤ k → length drives ≡ suc j → duplicates drives ≡ false
    → ((x : ℕ) → x ∈ drives → ¬ (x ∈ nets)) → ((x : ℕ) → from ≤ x → x < from + 2 ^ j → x ∈ nets)
    → OccurrenceOk (blocks k) nets (record { drives = drives; refers = block_number j; takes = up_from from (2 ^ j) })
reference-ok {nets} k j from drives h count once fresh held =
    record {
      distinct = once;
      fresh = is_true (disjoint-tells drives nets) (λ c. fresh c.net c.in_first c.in_second);
      bound =
          is_true (subset-tells (up_from from (2 ^ j)) nets)
          (λ l. let place = of-run from (2 ^ j) l.listed in l.missing (held l.net (omega arith) (omega arith)));
      reference = block-reference k j h drives (up_from from (2 ^ j)) count (length-up_from from (2 ^ j));
    }
