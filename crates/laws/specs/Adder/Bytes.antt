-- How many bytes the written adder has: at most 15n + 59 at width n up to 64, so at most 1,019.
use Rattle.std.specs.Prelude.{◌≡◌, refl, List, ◌∷◌, ◌++◌, ℕ, zero, suc, ◌+◌, ◌*◌, ◌-◌, ◌<◌, ◌≤◌, min, ◌⊎◌, length}
use Rattle.std.proofs.Common.{ap, ◌∙◌, inl, inr, ⊎_elim, arith, length-append}
use Rattle.std.proofs.Math.Decide.{dec_lt}
use Rattle.meaning.specs.Layout.{each, number_bytes, file_numbers, encode}
use Rattle.meaning.specs.Adder.{up_from, adder_cells, adder}
use Rattle.laws.specs.Lists.{each_append}
use Rattle.laws.specs.Written.{bytes-of-low, bytes-of-high}
use Rattle.laws.specs.Adder.Numbers.{cells_numbers, numbers-of-cell, tail_numbers, numbers-of-adder}

-- The bytes of numbers.
unfoldable byte_count : List ℕ → ℕ
byte_count xs = length (each number_bytes xs)

byte_count-cons : (x : ℕ) (xs : List ℕ) → byte_count (x ∷ xs) ≡ length (number_bytes x) + byte_count xs
unfolding byte_count each
byte_count-cons x xs = length-append (number_bytes x) (each number_bytes xs)

byte_count-append : (xs ys : List ℕ) → byte_count (xs ++ ys) ≡ byte_count xs + byte_count ys
unfolding byte_count
byte_count-append xs ys = ap length (each_append number_bytes xs ys) ∙ length-append (each number_bytes xs) (each number_bytes ys)

-- A number has one byte below 128, else two.
count-of-number : (x : ℕ) → ((x < 128) × (length (number_bytes x) ≡ 1)) ⊎ ((128 ≤ x) × (length (number_bytes x) ≡ 2))
count-of-number x = go (dec_lt x 128)
  where
    go : Dec (x < 128) → ((x < 128) × (length (number_bytes x) ≡ 1)) ⊎ ((128 ≤ x) × (length (number_bytes x) ≡ 2))
    go (yes low) = inl (low, ap length (bytes-of-low x low))
    go (no high) = let large : 128 ≤ x = omega arith in inr (large, ap length (bytes-of-high x large))

pub most-count : (x : ℕ) → length (number_bytes x) ≤ 2
most-count x = ⊎_elim (λ w. omega arith) (λ w. omega arith) (count-of-number x)

pub low_count : (x : ℕ) → x < 128 → length (number_bytes x) ≡ 1
low_count x low = ⊎_elim (λ w. w.1) (λ w. omega arith) (count-of-number x)

-- Of a run of nets those from 128 on have a byte more.
count-of-run : (first n : ℕ) → byte_count (up_from first n) ≡ n + min n (first + n - 128)
unfolding up_from byte_count each
count-of-run first zero = omega arith
count-of-run first (suc n) =
    let cons = byte_count-cons first (up_from (suc first) n) in
    let rest = count-of-run (suc first) n in
    ⊎_elim (λ w. omega arith) (λ w. omega arith) (count-of-number first)

count-of-cell : (a b s k before n : ℕ)
    → byte_count (cells_numbers a b s k before (suc n))
    ≡ 3
    + length (number_bytes s)
    + length (number_bytes k)
    + length (number_bytes a)
    + length (number_bytes b)
    + length (number_bytes before)
    + byte_count (cells_numbers (suc a) (suc b) (suc s) (suc k) k n)
count-of-cell a b s k before n =
    rw (numbers-of-cell a b s k before n)
    (simp byte_count-cons
    (omega (arith, low_count 2 (omega arith), low_count 17 (omega arith), low_count 3 (omega arith))))

-- The arguments on a's nets have one byte each, those on b's nets one more from 128 on, the others at most two.
count-of-cells :
    (a b s k before n : ℕ) → a + n ≤ 128 → byte_count (cells_numbers a b s k before n) ≤ 11 * n + min n (b + n - 128)
unfolding byte_count cells_numbers each adder_cells
count-of-cells a b s k before zero low = omega arith
count-of-cells a b s k before (suc n) low =
    let cell = count-of-cell a b s k before n in
    let rest = count-of-cells (suc a) (suc b) (suc s) (suc k) k n (omega arith) in
    let sum = most-count s in
    let carry = most-count k in
    let carry-before = most-count before in
    let argument = low_count a (omega arith) in
    ⊎_elim (λ w. omega arith) (λ w. omega arith) (count-of-number b)

count-of-tail : byte_count tail_numbers ≡ 49
unfolding byte_count each number_bytes
count-of-tail = refl

count-of-adder : (n : ℕ)
    → byte_count (file_numbers (adder n))
    ≡ 51
    + length (number_bytes (2 * n + 1))
    + byte_count (up_from 0 (2 * n + 1))
    + length (number_bytes (n + 1))
    + byte_count (up_from (2 * n + 1) n)
    + length (number_bytes (4 * n))
    + length (number_bytes n)
    + byte_count (cells_numbers 1 (n + 1) (2 * n + 1) (3 * n + 1) 0 n)
count-of-adder n =
    rw (
      numbers-of-adder n,
      byte_count-cons 3,
      byte_count-cons 18,
      byte_count-cons (2 * n + 1),
      byte_count-append (up_from 0 (2 * n + 1)),
      byte_count-cons (n + 1),
      byte_count-append (up_from (2 * n + 1) n),
      byte_count-cons (4 * n),
      byte_count-cons n,
      byte_count-append (cells_numbers 1 (n + 1) (2 * n + 1) (3 * n + 1) 0 n),
      count-of-tail,
      low_count 3 (omega arith),
      low_count 18 (omega arith),
    )
    (omega arith)

-- The first cell's arguments have one byte each.
count-of-all-cells :
    (n : ℕ) → 1 ≤ n → n ≤ 64 → byte_count (cells_numbers 1 (n + 1) (2 * n + 1) (3 * n + 1) 0 n) ≤ 11 * n
count-of-all-cells zero some most = omega arith
count-of-all-cells (suc m) some most =
    let n = suc m in
    omega (
      arith,
      count-of-cell 1 (n + 1) (2 * n + 1) (3 * n + 1) 0 m,
      most-count (2 * n + 1),
      most-count (3 * n + 1),
      low_count 1 (omega arith),
      low_count (n + 1) (omega arith),
      low_count 0 (omega arith),
      count-of-cells 2 (suc (n + 1)) (suc (2 * n + 1)) (suc (3 * n + 1)) (3 * n + 1) m (omega arith),
    )

pub length-of-adder : (n : ℕ) → 1 ≤ n → n ≤ 64 → length (encode (adder n)) ≤ 15 * n + 59
unfolding encode byte_count
length-of-adder n some most =
    omega (
      arith,
      count-of-adder n,
      most-count (2 * n + 1),
      count-of-run 0 (2 * n + 1),
      low_count (n + 1) (omega arith),
      count-of-run (2 * n + 1) n,
      most-count (4 * n),
      low_count n (omega arith),
      count-of-all-cells n some most,
    )

pub most-bytes-of-adder : (n : ℕ) → 1 ≤ n → n ≤ 64 → length (encode (adder n)) ≤ 1019
most-bytes-of-adder n some most = omega (arith, length-of-adder n some most)
