-- Where each module begins that reading gets to, in bytes and in numbers.
use Rattle.std.specs.Prelude.{ℕ, zero, suc, List, [], ◌∷◌, length}
use Rattle.meaning.specs.Reading.{Step, got, refused, read_module}
use Rattle.read_parts.specs.Numbers.{before}

-- What there is behind a thing that reads; nothing behind a refusal.
unfoldable pub behind : {A : Type 0} → (A → ℕ → List ℕ → List ℕ) → Step A → List ℕ
behind more (got a place rest) = more a place rest
behind more (refused number place) = []

-- Of so many modules from a place on, the place of each that reading begins.
unfoldable pub begun : ℕ → ℕ → List ℕ → List ℕ
begun zero place rest = []
begun (suc n) place rest = place ∷ behind (λ _. begun n) (read_module place rest)

-- How many numbers stand in front of a place.
abbrev pub numbers_to : List ℕ → ℕ → ℕ
numbers_to bytes place = length (before bytes place)
