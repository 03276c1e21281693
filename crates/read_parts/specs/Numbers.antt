-- Which numbers stand in some bytes, and what a lent list holds once they are laid into it.
use Rattle.std.specs.Prelude.{ℕ, zero, suc, List, [], ◌∷◌, ◌++◌, length, take, drop}
use Rattle.meaning.specs.Reading.{Step, got, refused, read_number}

-- A number that reads, and then those that follow it.
unfoldable pub followed : (List ℕ → List ℕ) → Step ℕ → List ℕ
followed more (got value p rest) = value ∷ more rest
followed more (refused number place) = []

-- At most so many numbers, one after the other.
unfoldable pub at_most : ℕ → List ℕ → List ℕ
at_most zero bytes = []
at_most (suc n) bytes = followed (at_most n) (read_number 0 bytes)

-- The numbers that stand whole in the bytes, front to back, up to the first that is cut short or not in its shortest form. There
-- are no more of them than bytes.
unfoldable pub numbers_in : List ℕ → List ℕ
numbers_in bytes = at_most (length bytes) bytes

-- The numbers that stand whole in front of a place.
unfoldable pub before : List ℕ → ℕ → List ℕ
before bytes place = numbers_in (take place bytes)

-- A list whose first entries have been replaced.
abbrev pub laid : List ℕ → List ℕ → List ℕ
laid xs old = xs ++ drop (length xs) old
