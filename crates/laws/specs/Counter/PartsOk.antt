-- The parts of module 32 keep the rules of occurrences. Part after part, from the low end, its nets are all those below the end of the
-- new count: each part uses only what is there before it and drives what is not.
use Rattle.std.specs.Prelude.{ℕ, suc, ◌+◌, ◌*◌, ◌-◌, ◌^◌, ◌≤◌, ◌<◌, ◌⊎◌, ◌≡◌, Bool, false, List, ◌++◌, length}
use Rattle.std.proofs.Common.{inl, inr, ◌∙◌, arith}
use Rattle.meaning.specs.Syntax.{Occurrence}
use Rattle.meaning.specs.Members.{◌∈◌}
use Rattle.meaning.specs.Boxlist.{duplicates}
use Rattle.meaning.specs.Adder.{up_from, binary}
use Rattle.meaning.specs.Counter.{choose, block_number, blocks, join_parts, last_count}
use Rattle.laws.specs.WellFormed.{OccurrenceOk, Body, done, step}
use Rattle.laws.specs.Members.{in_left, in_right, in_either}
use Rattle.laws.specs.Adder.Distinct.{not_of-run, duplicates-after-run, duplicates-of-run}
use Rattle.laws.specs.Flatten.Numbered.{of-run, in_run}
use Rattle.laws.specs.Counter.Nets.{Outside, before, behind}
use Rattle.laws.specs.Counter.Digits.{worth_0, worth_1, HighestOne, done as no_digit, digit_0, digit_1}
use Rattle.laws.specs.Counter.Totals.{length-of-rows}
use Rattle.laws.specs.Counter.Signals.{Filled, either_side, after, after_both, body-both}
use Rattle.laws.specs.Counter.ChoiceOk.{Around, choice_body, choice_filled}
use Rattle.laws.specs.Counter.ReferenceOk.{reference-ok}

-- A net that its block drives: a new one, outside the row that chooses, before the end of the new count.
record Lies (first from past end x : ℕ) : Type 0 where
  least : first ≤ x
  outside : Outside x 1 from past
  below : x < end

-- One part: a block on the next bits, and the row that chooses between its count and the one below.
module _ (k j bits count below : ℕ) {nets : List ℕ} (level : j ≤ k) (short : count ≤ j) (width : bits + 2 ^ j ≤ below)
    (filled : Filled (below + count) nets) where
  abbrev high : ℕ
  high = below + count

  abbrev ands : ℕ
  ands = high + count

  abbrev ors : ℕ
  ors = ands + count

  abbrev upper : List ℕ
  upper = up_from (ors + count) (suc j - count)

  abbrev drives : List ℕ
  drives = up_from high count ++ upper

  in_rows : {x : ℕ} → x ∈ drives → Lies high ands (ors + count) (ors + suc j) x
  in_rows {x} i = go (in_either (up_from high count) i)
    where
      go : (x ∈ up_from high count) ⊎ (x ∈ upper) → Lies high ands (ors + count) (ors + suc j) x
      go (inl k) =
          let row = of-run high count k in
          record { least = row.from; outside = before (omega arith); below = omega arith }
      go (inr k) =
          let row = of-run (ors + count) (suc j - count) k in
          record { least = omega arith; outside = behind row.from; below = omega arith }

  once : duplicates drives ≡ false
  once =
      duplicates-after-run high count upper (λ y f g. not_of-run y (ors + count) (suc j - count) (λ x least most. omega arith))
      ∙ duplicates-of-run (ors + count) (suc j - count)

  part-ok : OccurrenceOk (blocks k) nets (record { drives = drives; refers = block_number j; takes = up_from bits (2 ^ j) })
  part-ok =
      reference-ok k j bits drives level (length-of-rows high (ors + count) count j short) once
      (λ x i k. omega (arith, (in_rows i).least, filled.are x k))
      (λ x f g. filled.all x (omega arith))

  around : Around ands (ors + count) (ors + suc j) (drives ++ nets)
  around =
      record {
        outside = λ x i. outside x (in_either drives i);
        below = λ x i. within x (in_either drives i);
        lower = λ x h. lower x h (either_side x high);
        upper = λ x f g.
            in_left nets
            (in_right (up_from high count) (in_run (ors + count) (suc j - count) x (record { from = f; below = omega arith })));
      }
    where
      outside : (x : ℕ) → (x ∈ drives) ⊎ (x ∈ nets) → Outside x 1 ands (ors + count)
      outside x (inl i) = (in_rows i).outside
      outside x (inr i) = before (omega (arith, filled.are x i))

      within : (x : ℕ) → (x ∈ drives) ⊎ (x ∈ nets) → x < ors + suc j
      within x (inl i) = (in_rows i).below
      within x (inr i) = omega (arith, filled.are x i)

      lower : (x : ℕ) → x < ands → (x < high) ⊎ (high ≤ x) → x ∈ (drives ++ nets)
      lower x h (inl l) = in_right drives (filled.all x l)
      lower x h (inr g) = in_left nets (in_left upper (in_run high count x (record { from = g; below = h })))

  choice_ok : Body (blocks k) (drives ++ nets) (choose (ors + j) high below ands ors count)
  choice_ok =
      choice_body (ors + j) high below ands count around (around.upper (ors + j) (omega arith) (omega arith)) (omega arith) (omega arith)

  next : Filled (ors + suc j) (after (choose (ors + j) high below ands ors count) (drives ++ nets))
  next = choice_filled (ors + j) high below ands count around (omega arith)

-- All parts from a level on.
pub record Wired (k n : ℕ) (nets : List ℕ) (os : List Occurrence) : Type 0 where
  pub body : Body (blocks k) nets os
  pub filled : Filled n (after os nets)

wired-to : {k m n : ℕ} {nets : List ℕ} {os : List Occurrence} → m ≡ n → Wired k m nets os → Wired k n nets os
wired-to e w = rw (← e) w

pub parts-wired : (k : ℕ) {count j : ℕ} {ds : List Bool} → HighestOne count j ds → (bits below : ℕ) {nets : List ℕ} → count ≤ j
    → j + length ds ≤ suc k → bits + 2 ^ j * binary ds ≤ below → Filled (below + count) nets
    → Wired k (last_count j count below ds + (j + length ds)) nets (join_parts j bits count below ds)
unfolding last_count join_parts after
parts-wired k (no_digit {j = j}) bits below short levels width filled =
    wired-to (omega arith) (record { body = done; filled = filled })
parts-wired k (digit_0 {count = count} {j = j} {ds = ds} highest) bits below short levels width filled =
    wired-to (omega arith)
    (parts-wired k highest bits below (omega arith) (omega arith) (omega (arith, worth_0 j ds)) filled)
parts-wired k (digit_1 {count = count} {j = j} {ds = ds} highest) bits below {nets} short levels width filled =
    let whole = worth_1 j ds in
    let ors = below + count + count + count in
    let level : j ≤ k = omega arith in
    let bits_fit : bits + 2 ^ j ≤ below = omega arith in
    let rest = parts-wired k highest (bits + 2 ^ j) ors (omega arith) (omega arith) (omega arith)
    (next k j bits count below level short bits_fit filled) in
    wired-to {m = last_count (suc j) (suc j) ors ds + (suc j + length ds)} (omega arith)
    (record {
      body =
          step (part-ok k j bits count below level short bits_fit filled)
          (body-both (choice_ok k j bits count below level short bits_fit filled) rest.body);
      filled = rw (after_both (choose (ors + j) (below + count) below (below + count + count) ors count)) rest.filled;
    })
