-- Lists of numbers of which each can be written.
use Prim.Native.Nat.{ℕ, ◌≤◌}
use native.Mathlib.Omega.{arith}
use mathlib.Core.List.{List, [], ◌∷◌}
use Rattle.meaning.specs.Lists.{All, none, more}
use Rattle.meaning.specs.Ceilings.{Small}

-- All of them are at most 3000.
abbrev pub Low : List ℕ → Type 0
Low [] = Unit
Low (x ∷ xs) = (x ≤ 3000) × Low xs

pub all_small : (xs : List ℕ) → Low xs → All Small xs
all_small [] low = none
all_small (x ∷ xs) low = more {x = x} (omega (arith, low.0)) (all_small xs low.1)
