-- Sums over levels: over the parts of a width, each by its level and the count bits below it, and over all levels below one.
use Prim.Native.Nat.{ℕ, zero, suc, ◌+◌, ◌*◌, ◌-◌, ◌^◌, ◌≤◌}
use Rattle.std.specs.Prelude.{◌≡◌, Bool, true, false, length}
use Rattle.std.proofs.Math.Path.{refl}
use Rattle.std.proofs.Common.{◌∙◌, mul-add, add-suc, arith}
use mathlib.Core.List.{List, [], ◌∷◌}
use Rattle.std.proofs.Math.Nat.{add-zero, suc-add, pow-suc, one-le-pow}
use Rattle.meaning.specs.Adder.{binary}
use Rattle.meaning.specs.Counter.{digits}
use Rattle.laws.specs.Counter.Digits.{binary-digits, worth-none, worth_0, worth_1}

-- A part for each digit 1, from a level on, as `join_parts` counts their levels and count bits.
unfoldable pub at_parts : (ℕ → ℕ → ℕ) → (level count : ℕ) → List Bool → ℕ
at_parts f j count [] = 0
at_parts f j count (false ∷ ds) = at_parts f (suc j) count ds
at_parts f j count (true ∷ ds) = f j count + at_parts f (suc j) (suc j) ds

unfoldable pub below_level : (ℕ → ℕ) → ℕ → ℕ
below_level f zero = 0
below_level f (suc j) = f j + below_level f j

-- The count bits below a part are at most as many as its level. A larger figure of each part has a larger sum.
pub parts-less : (f g : ℕ → ℕ → ℕ) (k : ℕ) → ((j count : ℕ) → count ≤ j → j ≤ k → f j count ≤ g j count) → (j count : ℕ)
    (ds : List Bool) → count ≤ j → j + length ds ≤ suc k → at_parts f j count ds ≤ at_parts g j count ds
unfolding at_parts
parts-less f g k less j count [] short h = omega arith
parts-less f g k less j count (false ∷ ds) short h = parts-less f g k less (suc j) count ds (omega arith) (omega arith)
parts-less f g k less j count (true ∷ ds) short h =
    omega (arith, less j count short (omega arith), parts-less f g k less (suc j) (suc j) ds (omega arith) (omega arith))

pub parts_same : (f g : ℕ → ℕ → ℕ) (k : ℕ) → ((j count : ℕ) → j ≤ k → f j count ≡ g j count) → (ds : List Bool) → length ds ≤ suc k
    → at_parts f 0 0 ds ≡ at_parts g 0 0 ds
parts_same f g k same ds h =
    omega (
      arith,
      parts-less f g k (λ j c short l. omega (arith, same j c l)) 0 0 ds (omega arith) (omega arith),
      parts-less g f k (λ j c short l. omega (arith, same j c l)) 0 0 ds (omega arith) (omega arith),
    )

-- The powers of two of all parts, so many times as said, are the width so many times.
powers : (a j count : ℕ) (ds : List Bool) → at_parts (λ i c. a * 2 ^ i) j count ds ≡ a * (2 ^ j * binary ds)
unfolding at_parts
powers a j count [] = rw (worth-none j) (omega arith)
powers a j count (false ∷ ds) = rw (worth_0 j ds) (powers a (suc j) count ds)
powers a j count (true ∷ ds) =
    rw (worth_1 j ds, mul-add a (2 ^ j) (2 ^ suc j * binary ds), powers a (suc j) (suc j) ds)

pub parts-powers : (a n : ℕ) → at_parts (λ i c. a * 2 ^ i) 0 0 (digits n) ≡ a * n
parts-powers a n =
    let whole : 2 ^ 0 * binary (digits n) ≡ n = omega (arith, binary-digits n) in
    powers a 0 0 (digits n) ∙ rw whole

-- At most there is a part at each level.
module _ (f : ℕ → ℕ) where
  further : (j d : ℕ) → below_level f j ≤ below_level f (j + d)
  unfolding below_level
  further j zero = rw (add-zero j) (omega arith)
  further j (suc d) = rw (add-suc j d) (omega (arith, further j d))

  pub below_more : (j k : ℕ) → j ≤ k → below_level f j ≤ below_level f k
  below_more j k h =
      let same : j + (k - j) ≡ k = omega arith in
      rw same at (further j (k - j))

  above : (j count : ℕ) (ds : List Bool) (k : ℕ) → j + length ds ≤ k → at_parts (λ i c. f i) j count ds + below_level f j ≤ below_level f k
  unfolding at_parts below_level
  above j count [] k h = omega (arith, below_more j k (omega arith))
  above j count (false ∷ ds) k h = omega (arith, above (suc j) count ds k (omega arith))
  above j count (true ∷ ds) k h = omega (arith, above (suc j) (suc j) ds k (omega arith))

  pub parts-most : (ds : List Bool) (k : ℕ) → length ds ≤ k → at_parts (λ i c. f i) 0 0 ds ≤ below_level f k
  parts-most ds k h = omega (arith, above 0 0 ds k (omega arith))

-- A power of two has one part, and no count bits below it.
module _ (f : ℕ → ℕ → ℕ) where
  no_part : (j count : ℕ) (ds : List Bool) → binary ds ≡ 0 → at_parts f j count ds ≡ 0
  unfolding at_parts binary
  no_part j count [] e = refl
  no_part j count (false ∷ ds) e = no_part (suc j) count ds (omega arith)
  no_part j count (true ∷ ds) e = absurd (omega arith)

  one-part : (j k count : ℕ) (ds : List Bool) → binary ds ≡ 2 ^ k → at_parts f j count ds ≡ f (j + k) count
  unfolding at_parts binary
  one-part j k count [] e = absurd (omega (arith, one-le-pow k 2 (omega arith)))
  one-part j zero count (false ∷ ds) e = absurd (omega arith)
  one-part j (suc k) count (false ∷ ds) e =
      rw (add-suc j k, ← suc-add j k) (one-part (suc j) k count ds (omega (arith, pow-suc 2 k)))
  one-part j zero count (true ∷ ds) e = rw (no_part (suc j) (suc j) ds (omega arith), add-zero j) (omega arith)
  one-part j (suc k) count (true ∷ ds) e = absurd (omega (arith, pow-suc 2 k))

  pub parts-of_power : (k : ℕ) → at_parts f 0 0 (digits (2 ^ k)) ≡ f k 0
  parts-of_power k =
      let level : 0 + k ≡ k = omega arith in
      one-part 0 k 0 (digits (2 ^ k)) (binary-digits (2 ^ k)) ∙ rw level
