-- No number of the counter of a width up to 64 passes 127. In module 32 the highest net is the last output, since each count lies above
-- the one before; the largest block has 64 bits.
use Rattle.std.specs.Prelude.{ℕ, zero, suc, ◌+◌, ◌*◌, ◌-◌, ◌^◌, ◌≤◌, ◌<◌, ◌⊎◌, ◌≡◌, refl, Bool, true, false, List, [], ◌∷◌, ◌++◌, ltb, length}
use Rattle.std.proofs.Common.{inl, inr, eq-or-lt_of_le, arith, ltb-true}
use Rattle.std.proofs.Math.Nat.{pow-le-pow_right}
use Rattle.meaning.specs.Layout.{each, list_numbers, occurrence_numbers, module_numbers, file_numbers}
use Rattle.meaning.specs.Syntax.{Occurrence}
use Rattle.meaning.specs.Lists.{none, more}
use Rattle.meaning.specs.Adder.{up_from, binary}
use Rattle.meaning.specs.Counter.{AND, OR, XOR, choose, block_number, pair_block, join_block, block, blocks, digits, join_parts, last_count, counter_module, counter}
use Rattle.laws.specs.Lists.{each_append}
use Rattle.laws.specs.Adder.ByTest.{all-by-test}
use Rattle.laws.specs.Adder.Nets.{length-up_from}
use Rattle.laws.specs.Counter.Every.{all_both}
use Rattle.laws.specs.Counter.Digits.{binary-digits, digits_fewest, worth_0, worth_1}
use Rattle.laws.specs.Counter.Levels.{at_parts, below_level, parts-less, parts-most, parts-of_power}
use Rattle.laws.specs.Counter.Totals.{length-of-rows, total-of-join, total-of-parts}
use Rattle.laws.specs.Counter.Lengths.{length-total, weighs-occurrences}
use Rattle.laws.specs.Counter.Low.{Low, low-row, low-list, low-gate, low-occurrence, low_module}

-- The last count of module 32: three rows of nets for the count bits below each part.
pub last-is : (j count below : ℕ) (ds : List Bool) → last_count j count below ds ≡ below + at_parts (λ i c. 3 * c) j count ds
unfolding last_count at_parts
last-is j count below [] = omega arith
last-is j count below (false ∷ ds) = last-is (suc j) count below ds
last-is j count below (true ∷ ds) = omega (arith, last-is (suc j) (suc j) (below + count + count + count) ds)

last-low : (n : ℕ) → n ≤ 64 → last_count 0 0 n (digits n) + length (digits n) ≤ 128
unfolding below_level
last-low n most = rw (last-is 0 0 n (digits n)) (go (eq-or-lt_of_le most))
  where
    go : (n ≡ 64) ⊎ (n < 64) → n + at_parts (λ i c. 3 * c) 0 0 (digits n) + length (digits n) ≤ 128
    go (inl e) =
        let alone : at_parts (λ i c. 3 * c) 0 0 (digits n) ≡ 0 = rw e (parts-of_power (λ i c. 3 * c) 6) in
        omega (arith, digits_fewest n 7 (omega arith))
    go (inr less) =
        let few = digits_fewest n 6 (omega arith) in
        omega (
          arith,
          parts-less (λ i c. 3 * c) (λ i c. 3 * i) 5 (λ j c short h. omega arith) 0 0 (digits n) (omega arith) (omega arith),
          parts-most (λ i. 3 * i) (digits n) 6 few,
        )

-- The gates that choose, whose nets all lie below some number.
low-choose : (e h l a o n : ℕ) → e < 128 → h + n ≤ 128 → l + n ≤ 128 → a + n ≤ 128 → o + n ≤ 128
    → Low (each occurrence_numbers (choose e h l a o n))
unfolding each choose
low-choose e h l a o zero ef hf lf af of = none
low-choose e h l a o (suc n) ef hf lf af of =
    all_both (low-gate a AND e l (omega arith) (omega arith) ef (omega arith))
    (all_both (low-gate o OR h a (omega arith) (omega arith) (omega arith) (omega arith))
    (low-choose e (suc h) (suc l) (suc a) (suc o) n ef (omega arith) (omega arith) (omega arith) (omega arith)))

low-number : (j : ℕ) → j ≤ 6 → block_number j < 128
unfolding block_number
low-number zero h = omega arith
low-number (suc j) h = omega arith

low_run : (first n : ℕ) → first + n ≤ 128 → n < 128 → Low (list_numbers (up_from first n))
low_run first n fits few = low-list (up_from first n) (omega (arith, length-up_from first n)) (low-row first n fits)

low-both : (os ps : List Occurrence) → Low (each occurrence_numbers os) → Low (each occurrence_numbers ps)
    → Low (each occurrence_numbers (os ++ ps))
low-both os ps low rest = rw (each_append occurrence_numbers os ps) (all_both low rest)

-- The blocks up to 64 bits.
low-join : (j : ℕ) → j ≤ 5 → Low (module_numbers (join_block j))
unfolding join_block each
low-join j h =
    let size : 2 ^ j ≤ 32 = pow-le-pow_right (omega arith) h in
    let low = 2 * 2 ^ j in
    let high = low + suc j in
    let ands = high + suc j in
    let ors = ands + j in
    let top = ors + j in
    low_module (join_block j) (omega arith)
    (low_run 0 low (omega arith) (omega arith))
    (low_run ors (j + 2) (omega arith) (omega arith))
    (omega (arith, length-total (join_block j).occurrences, total-of-join (weighs-occurrences j) j (omega arith)))
    (all_both
    (low-occurrence _ _ (block_number j) (low_run low (suc j) (omega arith) (omega arith)) (low-number j (omega arith))
    (low_run 0 (2 ^ j) (omega arith) (omega arith)))
    (all_both
    (low-occurrence _ _ (block_number j) (low_run high (suc j) (omega arith) (omega arith)) (low-number j (omega arith))
    (low_run (2 ^ j) (2 ^ j) (omega arith) (omega arith)))
    (low-both (choose (high + j) high low ands ors j) _
    (low-choose (high + j) high low ands ors j (omega arith) (omega arith) (omega arith) (omega arith) (omega arith))
    (all_both (low-gate (suc top) AND (high + j) (low + j) (omega arith) (omega arith) (omega arith) (omega arith))
    (all_both (low-gate top XOR (high + j) (suc top) (omega arith) (omega arith) (omega arith) (omega arith))
    none)))))

low-block : (i : ℕ) → i ≤ 5 → Low (module_numbers (block i))
unfolding block module_numbers occurrence_numbers each
low-block zero h = all-by-test (λ x. ltb x 128) (λ x. ltb-true x 128) (module_numbers pair_block) refl
low-block (suc j) h = low-join (suc j) h

low-blocks : (k : ℕ) → k ≤ 6 → Low (each module_numbers (blocks k))
unfolding each blocks
low-blocks zero h = none
low-blocks (suc i) h = all_both (low-block i (omega arith)) (low-blocks i (omega arith))

-- Module 32.
low_parts : (j bits count below : ℕ) (ds : List Bool) → count ≤ j → j + length ds ≤ 7 → bits + 2 ^ j * binary ds ≤ 64
    → last_count j count below ds + (j + length ds) ≤ 128 → Low (each occurrence_numbers (join_parts j bits count below ds))
unfolding each join_parts last_count
low_parts j bits count below [] short levels width fits = none
low_parts j bits count below (false ∷ ds) short levels width fits =
    low_parts (suc j) bits count below ds (omega arith) (omega arith) (omega (arith, worth_0 j ds)) (omega arith)
low_parts j bits count below (true ∷ ds) short levels width fits =
    let high = below + count in
    let ands = high + count in
    let ors = ands + count in
    let whole = worth_1 j ds in
    let highest = last-is (suc j) (suc j) ors ds in
    all_both
    (low-occurrence _ _ (block_number j)
    (low-list (up_from high count ++ up_from (ors + count) (suc j - count))
    (omega (arith, length-of-rows high (ors + count) count j short))
    (all_both (low-row high count (omega arith)) (low-row (ors + count) (suc j - count) (omega arith))))
    (low-number j (omega arith))
    (low_run bits (2 ^ j) (omega arith) (omega arith)))
    (low-both (choose (ors + j) high below ands ors count) _
    (low-choose (ors + j) high below ands ors count (omega arith) (omega arith) (omega arith) (omega arith) (omega arith))
    (low_parts (suc j) (bits + 2 ^ j) (suc j) ors ds (omega arith) (omega arith) (omega arith) (omega arith)))

parts-few : (n : ℕ) → n ≤ 64 → length (join_parts 0 0 0 n (digits n)) < 128
unfolding below_level
parts-few n most =
    let few = digits_fewest n 7 (omega arith) in
    rw (length-total (join_parts 0 0 0 n (digits n)), total-of-parts (weighs-occurrences 6) 0 0 0 n (digits n) (omega arith) (omega arith))
    (omega (
      arith,
      parts-less (λ i c. 1 + 2 * c * 1) (λ i c. 1 + 2 * i) 6 (λ j c short h. omega arith) 0 0 (digits n) (omega arith) (omega arith),
      parts-most (λ i. 1 + 2 * i) (digits n) 7 few,
    ))

count-of-blocks : (k : ℕ) → length (blocks k) ≡ k
unfolding blocks
count-of-blocks zero = refl
count-of-blocks (suc k) = rw (count-of-blocks k)

pub counter-low : (n : ℕ) → n ≤ 64 → Low (file_numbers (counter n))
unfolding file_numbers counter counter_module each
counter-low n most =
    let few = digits_fewest n 7 (omega arith) in
    let k = length (digits n) - 1 in
    let last = last_count 0 0 n (digits n) in
    more {x = suc (length (blocks k))} (omega (arith, count-of-blocks k))
    (all_both
    (low_module (counter_module n) (omega arith)
    (low_run 0 n (omega arith) (omega arith))
    (low_run last (length (digits n)) (last-low n most) (omega arith))
    (parts-few n most)
    (low_parts 0 0 0 n (digits n) (omega arith) (omega arith) (omega (arith, binary-digits n)) (omega (arith, last-low n most))))
    (low-blocks k (omega arith)))
