-- A fact at every width, by a test that computes, one width after the other.
use Rattle.std.specs.Prelude.{ℕ, zero, suc, ◌≤◌, ◌≡◌, refl, Bool, true, false, ◌&&◌, eqb}
use Rattle.std.proofs.Math.Bool.{and-eq-true_iff}
use Rattle.std.proofs.Common.{arith, eqb-true}
use Rattle.std.proofs.lemmas.Bool.{eqb-false}

-- The test passes at each width from 1 up to one.
unfoldable pub every_width : (ℕ → Bool) → ℕ → Bool
every_width test zero = true
every_width test (suc n) = test (suc n) && every_width test n

pub at_width : (test : ℕ → Bool) (most : ℕ) → every_width test most ≡ true → (n : ℕ) → 1 ≤ n → n ≤ most → test n ≡ true
unfolding every_width
at_width test zero passed n some h = absurd (omega arith)
at_width test (suc k) passed n some h =
    let both = (and-eq-true_iff (test (suc k)) (every_width test k)).0 passed in
    go (eqb n (suc k)) refl both.0 (at_width test k both.1 n some)
  where
    go : (b : Bool) → eqb n (suc k) ≡ b → test (suc k) ≡ true → (n ≤ k → test n ≡ true) → test n ≡ true
    go true e here below = rw (eqb-true n (suc k) e) here
    go false e here below = let other = eqb-false n (suc k) e in below (omega arith)
