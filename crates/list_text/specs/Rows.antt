-- Numbers in a row.
use Rattle.std.specs.Prelude.{ℕ, List, ◌∷◌}
use Rattle.meaning.specs.Layout.{each}
use Rattle.meaning.specs.Listing.{space, decimal}

-- A number with a space in front.
abbrev pub word : ℕ → List ℕ
word n = space ∷ decimal n

-- Numbers with a space in front of each.
abbrev pub behind : List ℕ → List ℕ
behind numbers = each word numbers
