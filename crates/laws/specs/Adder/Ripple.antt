-- The chain of full adders, for values of any kind: what the written adder computes, without its nets.
use Rattle.std.specs.Prelude.{◌≡◌, length, take}
use Rattle.std.proofs.Math.Path.{refl, ap}
use mathlib.Core.List.{List, [], ◌∷◌}
use Prim.Native.Nat.{ℕ, zero, suc}
use native.Mathlib.Omega.{arith}

-- Sum and carry of the full adder of document 000: two half adders (B-XOR is 9, B-AND 10) and a B-OR (5).
module _ {A : Type 0} (gate_result : ℕ → List A → A) where
  abbrev pub full_sum : A → A → A → A
  full_sum x y z = gate_result 9 (gate_result 9 (x ∷ y ∷ []) ∷ z ∷ [])

  abbrev pub full_carry : A → A → A → A
  full_carry x y z = gate_result 5 (gate_result 10 (x ∷ y ∷ []) ∷ gate_result 10 (gate_result 9 (x ∷ y ∷ []) ∷ z ∷ []) ∷ [])

module _ {A : Type 0} (sum carry : A → A → A → A) where
  -- The sums, low first, then the last carry.
  unfoldable pub ripple : A → (xs ys : List A) → List A
  ripple c [] ys = c ∷ []
  ripple c (x ∷ xs) [] = c ∷ []
  ripple c (x ∷ xs) (y ∷ ys) = sum x y c ∷ ripple (carry x y c) xs ys

  pub length-of-ripple : (c : A) (xs ys : List A) → length xs ≡ length ys → length (ripple c xs ys) ≡ suc (length xs)
  unfolding ripple
  length-of-ripple c [] [] same = refl
  length-of-ripple c [] (y ∷ ys) same = omega arith
  length-of-ripple c (x ∷ xs) [] same = omega arith
  length-of-ripple c (x ∷ xs) (y ∷ ys) same = ap suc (length-of-ripple (carry x y c) xs ys (omega arith))

  -- The lowest sums are those of the chain over the lowest values alone.
  pub lowest-of-ripple : (k : ℕ) (c : A) (xs ys : List A) → take k (ripple c xs ys) ≡ take k (ripple c (take k xs) (take k ys))
  unfolding ripple
  lowest-of-ripple zero c xs ys = refl
  lowest-of-ripple (suc k) c [] ys = refl
  lowest-of-ripple (suc k) c (x ∷ xs) [] = refl
  lowest-of-ripple (suc k) c (x ∷ xs) (y ∷ ys) = ap (λ (vs : List A). sum x y c ∷ vs) (lowest-of-ripple k (carry x y c) xs ys)
