-- One computed test of every number below a bound.
use Rattle.std.specs.Prelude.{ℕ, zero, suc, ◌<◌, ◌≡◌, refl, Bool, true, false, ◌&&◌}
use Rattle.std.proofs.Math.Decide.{ℕ_discrete}
use Rattle.std.proofs.Common.{arith}

unfoldable pub all_below : (n : ℕ) → (ℕ → Bool) → Bool
all_below zero p = true
all_below (suc n) p = p n && all_below n p

both_first : (t u : Bool) → (t && u) ≡ true → t ≡ true
both_first true u e = refl
both_first false u e = e

both-second : (t u : Bool) → (t && u) ≡ true → u ≡ true
both-second true u e = e
both-second false u e = absurd (let z : ◌≡◌ {A = ℕ} 0 1 = cc in omega arith)

pub below : (n : ℕ) (p : ℕ → Bool) → all_below n p ≡ true → (i : ℕ) → i < n → p i ≡ true
unfolding all_below
below zero p e i l = absurd (omega arith)
below (suc n) p e i l = go (ℕ_discrete i n) (below n p (both-second (p n) (all_below n p) e) i)
  where
    go : Dec (i ≡ n) → (i < n → p i ≡ true) → p i ≡ true
    go (yes same) rest = rw same (both_first (p n) (all_below n p) e)
    go (no other) rest = rest (omega arith)
