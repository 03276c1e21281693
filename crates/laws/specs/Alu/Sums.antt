-- A chain of full adders by places: what it sums up to, and what its last two carries tell of integers. If the sum differs from an
-- integer by a multiple of 2^n, its n bits are the integer's remainder; if it is the sum of signed numbers, the last two carries differ
-- exactly where it does not fit the width.
use Prim.Native.Nat.{ℕ, zero, suc, ◌+◌, ◌*◌, ◌-◌, ◌^◌, ◌/◌, ◌%◌, ◌<◌, ◌≤◌}
use Rattle.std.specs.Prelude.{◌≡◌, Bool, not, ◌&&◌, cond, ltb}
use Rattle.std.proofs.Math.Path.{refl}
use Rattle.std.proofs.Common.{sym, ap, ◌∙◌, mod-eq_of_lt, mod-lt, lt-ltb, le-ltb}
use Rattle.std.proofs.Math.Bool.{true, false}
use Rattle.std.proofs.Math.Nat.{div-add-mod, add-mul-mod_self_right}
use native.Mathlib.Omega.{arith}
use Rattle.meaning.specs.Gates.{gate, gates, B-XOR}
use Rattle.meaning.specs.Adder.{bit}
use Rattle.meaning.specs.Operations.{Integer, whole, below, signed, fits_signed, remainder}
use Rattle.laws.specs.Adder.Ripple.{full_sum, full_carry}
use Rattle.laws.specs.Adder.Sum.{gate_bit}
use Rattle.laws.specs.Alu.Worth.{worth, up_to, worth-most, up_to-below, top_below}

-- The remainder of an integer that is r and some multiples of the modulus.
remainder_of :
    (modulus front back r more fewer : ℕ)
    → r < modulus
    → front + more * modulus ≡ r + back + fewer * modulus
    → (front + (modulus - back % modulus)) % modulus ≡ r
remainder_of modulus front back r more fewer low same =
    let most : back % modulus < modulus = mod-lt back (omega arith) in
    let parts = div-add-mod back modulus in
    let all : front + (modulus - back % modulus) + more * modulus ≡ r + (back / modulus + 1 + fewer) * modulus = omega arith in
    sym (add-mul-mod_self_right (front + (modulus - back % modulus)) more modulus)
    ∙ ap (λ (x : ℕ). x % modulus) all
    ∙ add-mul-mod_self_right r (back / modulus + 1 + fewer) modulus
    ∙ mod-eq_of_lt low

-- Whether an integer that is low, less the worth of a sign and with that of two carries, fits.
unfit :
    (power front back low : ℕ) (sign into out : Bool)
    → low < power
    → front + worth power sign + 2 * worth power out ≡ low + 2 * worth power into + back
    → not (not (ltb (front + (0 + power)) (0 + 0 + back)) && ltb (front + 0) (power + back)) ≡ B-XOR out into
unfit power front back low sign true true fits same =
    rw (
      le-ltb (front + (0 + power)) (0 + 0 + back) (omega (arith, worth-most power sign)),
      lt-ltb (front + 0) (power + back) (omega (arith, worth-most power sign)),
    )
unfit power front back low sign false false fits same =
    rw (
      le-ltb (front + (0 + power)) (0 + 0 + back) (omega (arith, worth-most power sign)),
      lt-ltb (front + 0) (power + back) (omega (arith, worth-most power sign)),
    )
unfit power front back low sign true false fits same =
    rw (
      le-ltb (front + (0 + power)) (0 + 0 + back) (omega (arith, worth-most power sign)),
      le-ltb (front + 0) (power + back) (omega (arith, worth-most power sign)),
    )
unfit power front back low sign false true fits same =
    rw (lt-ltb (front + (0 + power)) (0 + 0 + back) (omega (arith, worth-most power sign)))

full-adder-worth :
    (power : ℕ) (x y z : Bool)
    → worth power (full_sum gate_bit x y z) + 2 * worth power (full_carry gate_bit x y z) ≡ worth power x + worth power y + worth power z
unfolding gate gates
full-adder-worth power true true true = omega arith
full-adder-worth power true true false = omega arith
full-adder-worth power true false true = omega arith
full-adder-worth power true false false = omega arith
full-adder-worth power false true true = omega arith
full-adder-worth power false true false = omega arith
full-adder-worth power false false true = omega arith
full-adder-worth power false false false = omega arith

-- Two numbers, the carries and the sums by their places.
pub record Chain (n : ℕ) (x y carry sum : ℕ → Bool) : Type 0 where
  pub sums : (i : ℕ) → i < n → sum i ≡ full_sum gate_bit (x i) (y i) (carry i)
  pub carries : (i : ℕ) → i < n → carry (suc i) ≡ full_carry gate_bit (x i) (y i) (carry i)

module _ {n : ℕ} {x y carry sum : ℕ → Bool} (chain : Chain n x y carry sum) where
  at_place :
      (i : ℕ) → i < n
      → worth (2 ^ i) (sum i) + 2 * worth (2 ^ i) (carry (suc i)) ≡ worth (2 ^ i) (x i) + worth (2 ^ i) (y i) + worth (2 ^ i) (carry i)
  at_place i low = rw (chain.sums i low, chain.carries i low) (full-adder-worth (2 ^ i) (x i) (y i) (carry i))

  pub added : (m : ℕ) → m ≤ n → up_to sum m + worth (2 ^ m) (carry m) ≡ up_to x m + up_to y m + bit (carry 0)
  unfolding up_to
  added zero low = refl
  added (suc m) low = omega (arith, added m (omega arith), at_place m low, double (carry (suc m)))
    where
      double : (b : Bool) → worth (2 ^ suc m) b ≡ 2 * worth (2 ^ m) b
      double true = let twice : 2 ^ suc m ≡ 2 * 2 ^ m = omega arith in twice
      double false = refl

  -- An integer that is the sum, less 2^n if `under`.
  module _ (z : Integer) (under : Bool)
      (same : z.front + worth (2 ^ n) under ≡ up_to x n + up_to y n + bit (carry 0) + z.back) where
    pub remainder_is : remainder n z ≡ up_to sum n
    unfolding remainder
    remainder_is = go under (carry n) same (added n (omega arith))
      where
        go :
            (under last : Bool)
            → z.front + worth (2 ^ n) under ≡ up_to x n + up_to y n + bit (carry 0) + z.back
            → up_to sum n + worth (2 ^ n) last ≡ up_to x n + up_to y n + bit (carry 0)
            → (z.front + (2 ^ n - z.back % 2 ^ n)) % 2 ^ n ≡ up_to sum n
        go true true e f = remainder_of (2 ^ n) _ _ _ 1 1 (up_to-below sum n) (omega arith)
        go true false e f = remainder_of (2 ^ n) _ _ _ 1 0 (up_to-below sum n) (omega arith)
        go false true e f = remainder_of (2 ^ n) _ _ _ 0 1 (up_to-below sum n) (omega arith)
        go false false e f = remainder_of (2 ^ n) _ _ _ 0 0 (up_to-below sum n) (omega arith)

  -- An exact sum that is not below zero has more than n bits exactly where there is a carry out,
  pub carry-out-is :
      (z : Integer) → z.front ≡ up_to x n + up_to y n + bit (carry 0) + z.back
      → not (below z (whole (2 ^ n))) ≡ carry n
  carry-out-is z same = go (carry n) (added n (omega arith))
    where
      go : (last : Bool) → up_to sum n + worth (2 ^ n) last ≡ up_to x n + up_to y n + bit (carry 0)
          → not (ltb (z.front + 0) (2 ^ n + z.back)) ≡ last
      go true e = rw (le-ltb (z.front + 0) (2 ^ n + z.back) (omega arith))
      go false e = rw (lt-ltb (z.front + 0) (2 ^ n + z.back) (omega (arith, up_to-below sum n)))

  -- and one that is 2^n less is below zero exactly where there is none.
  pub borrow_is :
      (z : Integer) → z.front + 2 ^ n ≡ up_to x n + up_to y n + bit (carry 0) + z.back → below z (whole 0) ≡ B-XOR (carry n) true
  borrow_is z same = go (carry n) (added n (omega arith))
    where
      go : (last : Bool) → up_to sum n + worth (2 ^ n) last ≡ up_to x n + up_to y n + bit (carry 0)
          → ltb (z.front + 0) (0 + z.back) ≡ B-XOR last true
      go true e = le-ltb (z.front + 0) (0 + z.back) (omega arith)
      go false e = lt-ltb (z.front + 0) (0 + z.back) (omega (arith, up_to-below sum n))

-- A number's top bit counts as much below zero, twice, where it is read as signed.
pub back-of-signed : (f : ℕ → Bool) (k : ℕ) → (signed (suc k) (up_to f (suc k))).back ≡ 2 * worth (2 ^ k) (f k)
back-of-signed f k =
    let less : suc k - 1 ≡ k = omega arith in
    rw (less, top_below f k) (go (f k))
  where
    go : (b : Bool) → cond (not b) 0 (2 ^ suc k) ≡ 2 * worth (2 ^ k) b
    go true = let twice : 2 ^ suc k ≡ 2 * 2 ^ k = omega arith in twice
    go false = refl

-- The exact sum of signed numbers does not fit exactly where the last two carries differ.
pub overflow-is :
    {k : ℕ} {x y carry sum : ℕ → Bool} → Chain (suc k) x y carry sum → (z : Integer)
    → z.front + 2 * worth (2 ^ k) (x k) + 2 * worth (2 ^ k) (y k) ≡ up_to x (suc k) + up_to y (suc k) + bit (carry 0) + z.back
    → not (fits_signed (suc k) z) ≡ B-XOR (carry (suc k)) (carry k)
unfolding up_to
overflow-is {k} {x} {y} {carry} {sum} chain z same =
    let less : suc k - 1 ≡ k = omega arith in
    rw less
    (unfit (2 ^ k) z.front z.back (up_to sum k) (sum k) (carry k) (carry (suc k)) (up_to-below sum k)
    (omega (arith, added chain k (omega arith), at_place chain k (omega arith))))
