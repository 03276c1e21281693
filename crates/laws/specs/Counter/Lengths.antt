-- How many the occurrences, the driven nets and the numbers of a counter are: sums over its parts and blocks. At each width from 1 to 64
-- the file has at most 773 numbers, as many as at 64.
use Rattle.std.specs.Prelude.{ℕ, zero, suc, ◌+◌, ◌*◌, ◌-◌, ◌^◌, ◌≤◌, ◌<◌, ◌⊎◌, ◌≡◌, refl, List, [], ◌∷◌, ◌++◌, length}
use Rattle.std.proofs.Common.{inl, inr, ◌∙◌, pow-suc, eq-or-lt_of_le, arith, length-append}
use Rattle.meaning.specs.Syntax.{Occurrence, Module}
use Rattle.meaning.specs.Layout.{each, list_numbers, occurrence_numbers, module_numbers, file_numbers}
use Rattle.meaning.specs.Limits.{driven}
use Rattle.meaning.specs.Counter.{block_number, join_block, block, blocks, digits, last_count, counter_module, counter}
use Rattle.laws.specs.Adder.Nets.{length-up_from}
use Rattle.laws.specs.Counter.Digits.{digits_fewest}
use Rattle.laws.specs.Counter.Levels.{at_parts, below_level, parts-less, parts-most, parts-of_power, below_more}
use Rattle.laws.specs.Counter.Numbered.{block-inputs, block-outputs}
use Rattle.laws.specs.Counter.Totals.{total, Weighs, total-of-join, total-of-parts}

-- Lengths as sums.
pub length-total : {A : Type 0} (xs : List A) → length xs ≡ total (λ x. 1) xs
unfolding total
length-total [] = refl
length-total (x ∷ xs) = omega (arith, length-total xs)

pub driven-total : (os : List Occurrence) → length (driven os) ≡ total (λ o. length o.drives) os
unfolding total driven
driven-total [] = refl
driven-total (o ∷ os) = omega (arith, length-append o.drives (driven os), driven-total os)

each-total : {A : Type 0} (f : A → List ℕ) (xs : List A) → length (each f xs) ≡ total (λ x. length (f x)) xs
unfolding total each
each-total f [] = refl
each-total f (x ∷ xs) = omega (arith, length-append (f x) (each f xs), each-total f xs)

-- One for each occurrence; a net for each gate and the answer of a block; the numbers of each.
pub weighs-occurrences : (k : ℕ) → Weighs (λ o. 1) k 1 (λ j. 1)
weighs-occurrences k = record { gates = λ net kind a b gate. refl; blocks = λ j h drives takes d t. refl }

pub weighs-nets : (k : ℕ) → Weighs (λ o. length o.drives) k 1 suc
weighs-nets k = record { gates = λ net kind a b gate. refl; blocks = λ j h drives takes d t. d }

weighs-numbers : (k : ℕ) → Weighs (λ o. length (occurrence_numbers o)) k 6 (λ j. 4 + j + 2 ^ j)
unfolding occurrence_numbers
weighs-numbers k =
    record {
      gates = λ net kind a b gate. refl;
      blocks = λ j h drives takes d t. omega (arith, length-append drives (block_number j ∷ list_numbers takes));
    }

-- The numbers of a module, of the blocks, and of module 32.
length-of_module : (m : Module) → length (module_numbers m)
    ≡ 4 + length m.inputs + length m.outputs + total (λ o. length (occurrence_numbers o)) m.occurrences
unfolding module_numbers
length-of_module m =
    let os = each occurrence_numbers m.occurrences in
    let rest = length m.occurrences ∷ os in
    omega (
      arith,
      length-append m.inputs (list_numbers m.outputs ++ rest),
      length-append m.outputs rest,
      each-total occurrence_numbers m.occurrences,
    )

unfoldable block_length : ℕ → ℕ
block_length zero = 20
block_length (suc j) = 41 + 15 * j + 8 * 2 ^ j

length-of-block : (i : ℕ) → length (module_numbers (block i)) ≡ block_length i
unfolding block_length block module_numbers each occurrence_numbers
length-of-block zero = refl
length-of-block (suc j) =
    length-of_module (join_block (suc j))
    ∙ omega (
      arith,
      total-of-join (weighs-numbers (suc j)) (suc j) (omega arith),
      block-inputs (suc j),
      block-outputs (suc j),
      pow-suc 2 j,
      pow-suc 2 (suc j),
    )

length-of-blocks : (k : ℕ) → length (each module_numbers (blocks k)) ≡ below_level block_length k
unfolding blocks each below_level
length-of-blocks zero = refl
length-of-blocks (suc i) =
    omega (arith, length-append (module_numbers (block i)) (each module_numbers (blocks i)), length-of-block i, length-of-blocks i)

abbrev part_length : ℕ → ℕ → ℕ
part_length j count = 4 + j + 2 ^ j + 2 * count * 6

length-of-counter : (n : ℕ)
    → length (file_numbers (counter n))
    ≡ 5 + n + length (digits n) + at_parts part_length 0 0 (digits n) + below_level block_length (length (digits n) - 1)
unfolding file_numbers counter each counter_module
length-of-counter n =
    let k = length (digits n) - 1 in
    omega (
      arith,
      length-append (module_numbers (counter_module n)) (each module_numbers (blocks k)),
      length-of_module (counter_module n),
      length-up_from 0 n,
      length-up_from (last_count 0 0 n (digits n)) (length (digits n)),
      total-of-parts (weighs-numbers k) 0 0 0 n (digits n) (omega arith) (omega arith),
      length-of-blocks k,
    )

-- Below 64 there are at most six digits, and 64 has one part.
pub counter-numbers-few : (n : ℕ) → 1 ≤ n → n ≤ 64 → length (file_numbers (counter n)) ≤ 773
unfolding below_level block_length
counter-numbers-few n some most = rw (length-of-counter n) (go (eq-or-lt_of_le most))
  where
    go : (n ≡ 64) ⊎ (n < 64)
        → 5 + n + length (digits n) + at_parts part_length 0 0 (digits n) + below_level block_length (length (digits n) - 1) ≤ 773
    go (inl e) =
        let few = digits_fewest n 7 (omega arith) in
        let alone : at_parts part_length 0 0 (digits n) ≡ part_length 6 0 = rw e (parts-of_power part_length 6) in
        omega (arith, below_more block_length (length (digits n) - 1) 6 (omega arith))
    go (inr less) =
        let few = digits_fewest n 6 (omega arith) in
        omega (
          arith,
          parts-less part_length (λ j c. part_length j j) 5 (λ j c short h. omega arith) 0 0 (digits n) (omega arith) (omega arith),
          parts-most (λ j. part_length j j) (digits n) 6 few,
          below_more block_length (length (digits n) - 1) 5 (omega arith),
        )
