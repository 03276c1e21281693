-- Where the largest of some values is one, all are.
use Prim.Native.Nat.{ℕ, suc, ◌≤◌}
use mathlib.Core.Path.{◌≡◌, refl, ap}
use mathlib.Core.Bool.{Bool, true, false, cond}
use mathlib.Core.List.{List, [], ◌∷◌}
use native.Mathlib.Omega.{arith}
use borrow.Author.Tests.{leb-true, le-leb}
use lib.Dec.{leb}
use lib.ListN.{length}
use Rattle.meaning.specs.Values.{floating}
use Rattle.meaning.specs.Calls.{first_above}
use Rattle.meaning.specs.Figures.{largest}

all-within : (values : List ℕ) → largest values ≤ floating → first_above values ≡ length values
unfolding first_above largest
all-within [] h = refl
all-within (x ∷ xs) h = rw (le-leb x floating (omega (arith, h))) (ap suc (all-within xs (omega (arith, h))))

pub largest-decides :
    (values : List ℕ) {most : ℕ} → most ≡ largest values → ◌≡◌ {A = ℕ} (first_above (most ∷ [])) 1 → first_above values ≡ length values
unfolding first_above
largest-decides values {most} is one = go (leb most floating) refl one
  where
    go : (b : Bool) → leb most floating ≡ b → ◌≡◌ {A = ℕ} (cond b 1 0) 1 → first_above values ≡ length values
    go true e h = all-within values (omega (arith, is, leb-true most floating e))
    go false e h = absurd (omega (arith, h))
