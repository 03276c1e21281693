-- The binary digits of a number, taken from the low end: 0 has none, and any other number has its low digit and the digits of its
-- half. A number up to 64 has at most seven.
use Prim.Native.Nat.{ℕ, zero, suc, ◌+◌, ◌/◌, ◌%◌, ◌^◌, ◌≤◌, ◌<◌}
use native.Mathlib.Nat.{pow-suc}
use native.Mathlib.Numerals.{add-one}
use native.Mathlib.Omega.{arith}
use mathlib.Core.Path.{◌≡◌, refl, ap, sym}
use mathlib.Core.Bool.{true, false}
use mathlib.Core.List.{[], ◌∷◌}
use lib.Dec.{eqb}
use lib.ListN.{length}
use borrow.Author.Tests.{eq-eqb, ne_eqb}
use Rattle.std.proofs.Math.Nat.{div-div-eq-div-mul}
use Rattle.meaning.specs.Counter.{digits_within, digits}
use Rattle.laws.specs.Counter.Digits.{digits_fewest}

-- Two bounds that are both large enough give the same digits.
within_same : (most more n : ℕ) → n ≤ most → n ≤ more → digits_within most n ≡ digits_within more n
unfolding digits_within
within_same zero zero n h k = refl
within_same zero (suc b) n h k = rw (eq-eqb n 0 (omega arith))
within_same (suc a) zero n h k = rw (eq-eqb n 0 (omega arith))
within_same (suc a) (suc b) n h k = rw (within_same a b (n / 2) (omega arith) (omega arith))

pub no_digits : (n : ℕ) → n ≤ 0 → digits n ≡ []
unfolding digits digits_within
no_digits n h =
    let none : n ≡ 0 = omega arith in
    rw none

low_digit : (n : ℕ) → 0 < n → digits n ≡ eqb (n % 2) 1 ∷ digits (n / 2)
unfolding digits digits_within
low_digit n some =
    rw (
      within_same n (suc n) n (omega arith) (omega arith),
      ne_eqb n 0 (omega arith),
      within_same n (n / 2) (n / 2) (omega arith) (omega arith),
    )

pub digit-one : (n : ℕ) → n % 2 ≡ 1 → digits n ≡ true ∷ digits (n / 2)
digit-one n one = rw (low_digit n (omega arith), eq-eqb (n % 2) 1 one)

pub digit-zero : (n : ℕ) → 0 < n → (n % 2 ≡ 1 → ⊥) → digits n ≡ false ∷ digits (n / 2)
digit-zero n some other = rw (low_digit n some, ne_eqb (n % 2) 1 other)

pub some-digit : (n : ℕ) → 0 < n → 1 ≤ length (digits n)
some-digit n some = rw (low_digit n some) (omega arith)

pub few-digits : (n : ℕ) → n ≤ 64 → length (digits n) ≤ 7
few-digits n most = digits_fewest n 7 (omega arith)

-- A number that has a digit is not 0, and one that has none is.
pub some-number : (n : ℕ) → 1 ≤ length (digits n) → 0 < n
some-number zero some = absurd (omega (arith, ap length (no_digits zero (omega arith))))
some-number (suc n) some = omega arith

pub no_number : (n : ℕ) → length (digits n) ≤ 0 → n ≤ 0
no_number zero none = omega arith
no_number (suc n) none = absurd (omega (arith, some-digit (suc n) (omega arith)))

-- What is left of a number behind its lowest digits.
pub all_left : (n : ℕ) → n / 2 ^ 0 ≡ n
all_left n = omega arith

pub next_left : (n level : ℕ) → n / 2 ^ (level + 1) ≡ n / 2 ^ level / 2
next_left n level = rw (add-one, pow-suc 2 level) (sym (div-div-eq-div-mul n (2 ^ level) 2))
