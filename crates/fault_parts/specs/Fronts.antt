-- How far a list of nets is as it should be.
use Rattle.std.specs.Prelude.{ℕ, suc, cond, List, [], ◌∷◌}
use Rattle.meaning.specs.Boxlist.{member}

-- How many nets at the front of a list are new: those in front of the first that is known, or that stands in the list before itself.
unfoldable pub new_front : List ℕ → (known : List ℕ) → ℕ
new_front [] known = 0
new_front (x ∷ xs) known = cond (member x known) 0 (suc (new_front xs (x ∷ known)))

-- How many are known: those in front of the first that is not.
unfoldable pub known_front : List ℕ → (known : List ℕ) → ℕ
known_front [] known = 0
known_front (x ∷ xs) known = cond (member x known) (suc (known_front xs known)) 0
