-- Tests and what they tell: `Tells P Q b` says that the test `b` is true by a proof of P, or false by a proof of Q. Facts about a
-- test are then built from facts about its parts, and read off its value either way.
use Rattle.std.specs.Prelude.{ℕ, ◌≤◌, ◌<◌, ◌⊎◌, ◌≢◌, ◌≡◌, refl, Bool, true, false, not, ◌&&◌, ◌||◌, eqb, leb, ltb}
use Rattle.std.proofs.Common.{inl, inr, true≢false, arith, eqb-true, leb-true, leb-false, ltb-true, ltb-false}
use Rattle.std.proofs.lemmas.Bool.{false≢true, eqb-false}

pub data Tells (P Q : Type 0) : Bool → Type 0 where
  tells_true : P → Tells P Q true
  tells_false : Q → Tells P Q false

-- From the test's value.
pub if_true : {P Q : Type 0} {b : Bool} → Tells P Q b → b ≡ true → P
if_true (tells_true p) e = p
if_true (tells_false q) e = absurd (false≢true e)

pub if_false : {P Q : Type 0} {b : Bool} → Tells P Q b → b ≡ false → Q
if_false (tells_true p) e = absurd (true≢false e)
if_false (tells_false q) e = q

-- To the test's value.
pub is_true : {P Q : Type 0} {b : Bool} → Tells P Q b → ¬ Q → b ≡ true
is_true (tells_true p) h = refl
is_true (tells_false q) h = absurd (h q)

pub is_false : {P Q : Type 0} {b : Bool} → Tells P Q b → ¬ P → b ≡ false
is_false (tells_true p) h = absurd (h p)
is_false (tells_false q) h = refl

-- Past the test's value.
pub otherwise : {P Q : Type 0} {b : Bool} → Tells P Q b → ¬ Q → P
otherwise (tells_true p) h = p
otherwise (tells_false q) h = absurd (h q)

-- A test tells what follows from what it tells.
pub tells : {P Q P' Q' : Type 0} {b : Bool} → (P → P') → (Q → Q') → Tells P Q b → Tells P' Q' b
tells f g (tells_true p) = tells_true (f p)
tells f g (tells_false q) = tells_false (g q)

pub tells_not : {P Q : Type 0} {b : Bool} → Tells P Q b → Tells Q P (not b)
tells_not (tells_true p) = tells_false p
tells_not (tells_false q) = tells_true q

pub tells-and : {P Q P' Q' : Type 0} {a b : Bool} → Tells P Q a → Tells P' Q' b → Tells (P × P') (Q ⊎ Q') (a && b)
tells-and (tells_true p) (tells_true p') = tells_true (p, p')
tells-and (tells_true p) (tells_false q') = tells_false (inr q')
tells-and (tells_false q) t = tells_false (inl q)

pub tells-or : {P Q P' Q' : Type 0} {a b : Bool} → Tells P Q a → Tells P' Q' b → Tells (P ⊎ P') (Q × Q') (a || b)
tells-or (tells_true p) t = tells_true (inl p)
tells-or (tells_false q) (tells_true p') = tells_true (inr p')
tells-or (tells_false q) (tells_false q') = tells_false (q, q')

-- How the negations of two facts are put together, and the negation of an order.
pub neither : {P Q : Type 0} → ¬ P → ¬ Q → ¬ (P ⊎ Q)
neither f g (inl p) = f p
neither f g (inr q) = g q

pub not_below : {a b : ℕ} → a ≤ b → ¬ (b < a)
not_below h l = omega arith

-- Two tests that are true together are true each.
pub and_both : (a b : Bool) → (a && b) ≡ true → (a ≡ true) × (b ≡ true)
and_both true b e = (refl, e)
and_both false b e = absurd (false≢true e)

-- The tests on numbers.
by_value : {P Q : Type 0} (b : Bool) → (b ≡ true → P) → (b ≡ false → Q) → Tells P Q b
by_value true f g = tells_true (f refl)
by_value false f g = tells_false (g refl)

pub eqb_tells : (a b : ℕ) → Tells (a ≡ b) (a ≢ b) (eqb a b)
eqb_tells a b = by_value (eqb a b) (eqb-true a b) (eqb-false a b)

pub leb_tells : (a b : ℕ) → Tells (a ≤ b) (b < a) (leb a b)
leb_tells a b = by_value (leb a b) (leb-true a b) (leb-false a b)

pub ltb_tells : (a b : ℕ) → Tells (a < b) (b ≤ a) (ltb a b)
ltb_tells a b = by_value (ltb a b) (ltb-true a b) (ltb-false a b)
