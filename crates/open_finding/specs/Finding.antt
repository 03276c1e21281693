-- Where the module of a number stands.
use Rattle.std.specs.Prelude.{ℕ, ◌≤◌, ◌≡◌, List, ◌∷◌, length, get_or, drop, Option, Some, None}
use Rattle.meaning.specs.Syntax.{Module}
use Rattle.meaning.specs.Boxlist.{F, box, assoc}
use Rattle.image.specs.Resolved.{position_of}
use Rattle.open_finding.specs.declared.Site.{Site}

-- The modules' numbers are in a list by their positions.
pub record Searchable (names : List ℕ) (modules : ℕ) : Type 0 where
  pub ms : List Module
  pub all : modules ≡ length ms
  pub listed : length ms ≤ length names
  pub name : (k : ℕ) {m : Module} {later : List Module} → drop k ms ≡ m ∷ later → get_or names k 0 ≡ m.number

-- The first module that has the number, at its position.
pub record FoundAt (ms : List Module) (number k : ℕ) : Type 0 where
  pub m : Module
  pub later : List Module
  pub here : drop k ms ≡ m ∷ later
  pub named : m.number ≡ number
  pub found : assoc number ms ≡ box m
  pub placed : position_of number ms ≡ k

abbrev pub Finds : Option ℕ → (ms : List Module) → (number : ℕ) → Type 0
Finds (Some k) ms number = FoundAt ms number k
Finds None ms number = assoc number ms ≡ F

-- A module where it stands, as the tables have it.
abbrev pub site_of : (position number : ℕ) (sizes rooms : List ℕ) → Site
site_of position number sizes rooms =
    record { position = position; number = number; size = get_or sizes position 0; room = get_or rooms position 0 }
