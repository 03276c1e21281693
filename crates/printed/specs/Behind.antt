-- Places that some numbers are given, made a renaming of all numbers: those without a place come behind. That it is one is in
-- proofs/Behind.antt.
use Rattle.std.specs.Prelude.{ℕ, ◌+◌, ◌<◌, ◌≡◌, Bool, cond}
use Rattle.std.proofs.Common.{sym, ◌∙◌, true≢false}
use Rattle.std.proofs.Math.Path.{refl, ap}
use Rattle.std.proofs.Math.Bool.{true, false}
use Rattle.std.proofs.Math.Dec.{eqb}
use borrow.Author.Tests.{eqb-true, eqb-false, eq-eqb, ne_eqb}
use Rattle.meaning.specs.Gates.{is_gate}

unfoldable pub behind_all : (knows : ℕ → Bool) (place : ℕ → ℕ) (count : ℕ) → ℕ → ℕ
behind_all knows place count n = cond (knows n) (place n) (count + n)

-- Modules come behind the gates, which keep their numbers.
unfoldable pub behind_gates : (knows : ℕ → Bool) (place : ℕ → ℕ) (count : ℕ) → ℕ → ℕ
behind_gates knows place count n = cond (is_gate n) n (16 + behind_all knows place count n)

-- Different numbers have different places, below the count.
pub record Places (knows : ℕ → Bool) (place : ℕ → ℕ) (count : ℕ) : Type 0 where
  pub below : (n : ℕ) → knows n ≡ true → place n < count
  pub apart : (x y : ℕ) → knows x ≡ true → knows y ≡ true → place x ≡ place y → x ≡ y

pub same_test : (p q x y : ℕ) → (p ≡ q → x ≡ y) → (x ≡ y → p ≡ q) → eqb p q ≡ eqb x y
same_test p q x y forth back = go (eqb x y) refl
  where
    go : (t : Bool) → eqb x y ≡ t → eqb p q ≡ t
    go true e = eq-eqb p q (back (eqb-true x y e))
    go false e = ne_eqb p q (λ h. eqb-false x y e (forth h))

module _ {knows : ℕ → Bool} {place : ℕ → ℕ} {count : ℕ} (p : Places knows place count) where
  -- One that has a place is none that has not.
  pub differ : (x y : ℕ) → knows x ≡ true → knows y ≡ false → x ≡ y → ⊥
  differ x y e f h = true≢false (sym e ∙ ap knows h ∙ f)
