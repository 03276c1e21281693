-- Where the search for a value above 3 comes to the end, there is none.
use Prim.Native.Nat.{ℕ, suc, ◌≤◌}
use mathlib.Core.Path.{◌≡◌}
use mathlib.Core.Bool.{Bool, true, false, cond}
use mathlib.Core.List.{List, [], ◌∷◌}
use native.Mathlib.Omega.{arith}
use lib.Dec.{leb}
use lib.ListN.{length}
use Rattle.meaning.specs.Values.{floating}
use Rattle.meaning.specs.Calls.{first_above}

first-above-within : (values : List ℕ) → first_above values ≤ length values
unfolding first_above
first-above-within [] = omega arith
first-above-within (x ∷ xs) = go (leb x floating) (first-above-within xs)
  where
    go : (b : Bool) → first_above xs ≤ length xs → cond b (suc (first_above xs)) 0 ≤ suc (length xs)
    go true rest = omega (arith, rest)
    go false rest = omega arith

pub none_above : (values : List ℕ) {above : ℕ} → above ≡ first_above values → length values ≤ above → first_above values ≡ length values
none_above values is end = omega (arith, is, end, first-above-within values)
