-- The parts of module 32 by the width's digits: the numbers of a part in the order in which they are written, the parts behind it, and
-- how many occurrences they are.
use Prim.Native.Nat.{ℕ, suc, ◌+◌, ◌*◌, ◌-◌, ◌^◌, ◌≤◌}
use native.Mathlib.Numerals.{add-one}
use native.Mathlib.Omega.{arith}
use mathlib.Core.Path.{◌≡◌, refl}
use mathlib.Core.Bool.{Bool, true, false}
use mathlib.Core.List.{List, [], ◌∷◌, ◌++◌, append_assoc, append-nil}
use lib.ListN.{length, length-append}
use Rattle.meaning.specs.Layout.{each, list_numbers, occurrence_numbers}
use Rattle.meaning.specs.Adder.{up_from}
use Rattle.meaning.specs.Counter.{choose, block_number, digits, join_parts}
use Rattle.laws.specs.Lists.{each_append}
use Rattle.laws.specs.Adder.Nets.{length-up_from}
use Rattle.write_counter.proofs.Digits.{no_digits}
use Rattle.write_blocks.specs.Choices.{choice_numbers, length-of-choose}

abbrev pub parts_numbers : (level bits count below : ℕ) → List Bool → List ℕ
parts_numbers level bits count below ds = each occurrence_numbers (join_parts level bits count below ds)

-- A part, where `size` is 2^level and `number` refers to the block of that level.
abbrev pub part_numbers : (level bits count below size number : ℕ) → List ℕ
part_numbers level bits count below size number =
    let high = below + count in
    let ands = high + count in
    let ors = ands + count in
    (level + 1)
    ∷ (up_from high count
    ++ (up_from (ors + count) (level + 1 - count)
    ++ (number ∷ (list_numbers (up_from bits size) ++ choice_numbers (ors + level) high below ands ors count))))

module _ (level bits count below : ℕ) where
  driven-by-part : (first second : ℕ) → count ≤ level
      → length (up_from first count ++ up_from second (suc level - count)) ≡ level + 1
  driven-by-part first second within =
      rw (length-append (up_from first count), length-up_from first count, length-up_from second (suc level - count)) (omega arith)

  pub numbers-of-part : (size number : ℕ) → size ≡ 2 ^ level → number ≡ block_number level → count ≤ level
      → parts_numbers level bits count below (true ∷ []) ≡ part_numbers level bits count below size number
  unfolding join_parts each occurrence_numbers
  numbers-of-part size number e f within =
      let high = below + count in
      let ors = high + count + count in
      rw (driven-by-part high (ors + count) within, e, f) (simp (add-one, append-nil, append_assoc))

  -- Behind a digit 0, and behind the part of a digit 1.
  pub parts-behind_0 : (ds : List Bool) → parts_numbers level bits count below (false ∷ ds) ≡ parts_numbers (level + 1) bits count below ds
  unfolding join_parts
  parts-behind_0 ds = rw add-one

  pub parts-behind_1 : (ds : List Bool)
      → parts_numbers level bits count below (true ∷ ds)
      ≡ parts_numbers level bits count below (true ∷ [])
      ++ parts_numbers (level + 1) (bits + 2 ^ level) (level + 1) (below + 3 * count) ds
  unfolding join_parts each
  parts-behind_1 ds =
      let nets : below + 3 * count ≡ below + count + count + count = omega arith in
      rw (nets, add-one) (simp (each_append, append-nil, append_assoc))

  -- Behind the last digit.
  pub no_parts : (left : ℕ) → left ≤ 0 → parts_numbers level bits count below (digits left) ≡ []
  unfolding join_parts each
  no_parts left none = rw (no_digits left none)

-- How many occurrences the parts are.
unfoldable pub part_count : (level count : ℕ) → List Bool → ℕ
part_count level count [] = 0
part_count level count (false ∷ ds) = part_count (suc level) count ds
part_count level count (true ∷ ds) = 1 + 2 * count + part_count (suc level) (suc level) ds

pub length-of-parts : (level bits count below : ℕ) (ds : List Bool) → length (join_parts level bits count below ds) ≡ part_count level count ds
unfolding join_parts part_count
length-of-parts level bits count below [] = refl
length-of-parts level bits count below (false ∷ ds) = length-of-parts (suc level) bits count below ds
length-of-parts level bits count below (true ∷ ds) =
    let high = below + count in
    let ands = high + count in
    let ors = ands + count in
    rw (
      length-append (choose (ors + level) high below ands ors count),
      length-of-choose (ors + level) high below ands ors count,
      length-of-parts (suc level) (bits + 2 ^ level) (suc level) ors ds,
    )
    (omega arith)
