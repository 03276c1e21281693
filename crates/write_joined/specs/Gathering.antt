-- Modules whose numbers a table does not have, gathered in a list of bytes.
use Rattle.std.specs.Prelude.{ℕ, ◌+◌, ◌≤◌, ◌<◌, ◌≡◌, List, [], ◌∷◌, length, get_or, drop}
use Rattle.meaning.specs.Syntax.{Module}
use Rattle.meaning.specs.Layout.{each}
use Rattle.meaning.specs.Shelves.{bytes_of, lacking}
use Rattle.bytes_out.specs.Filled.{Put}
use Rattle.open_places.specs.Places.{Shelved}
use Rattle.write_joined.specs.Marks.{Marks}
use Rattle.write_joined.specs.declared.gathering.Gathered.{Gathered}

-- So many modules more, and their bytes behind the others.
pub record Gathers (own others : List Module) (bytes bytes' : List ℕ) (before after : Gathered) : Type 0 where
  pub count : after.modules ≡ before.modules + length (lacking own others)
  pub put : Put (each bytes_of (lacking own others)) bytes before.at bytes' after.at

-- One module more, or none.
pub record Takes (own : List Module) (m : Module) (bytes bytes' : List ℕ) (before after : Gathered) : Type 0 where
  pub took : Gathers own (m ∷ []) bytes bytes' before after

-- A module of a file stands at its place, its number is an index of the table, and there is room for it.
pub record At (house names places : List ℕ) (k : ℕ) (marks bytes : List ℕ) (done : Gathered) : Type 0 where
  pub own : List Module
  pub marked : Marks marks own
  pub modules : ℕ
  pub shelved : Shelved house modules names places
  pub m : Module
  pub later : List Module
  pub here : drop k shelved.ms ≡ m ∷ later
  pub index : get_or names k 0 < length marks
  pub few : done.modules ≤ 256
  pub room : done.at + length (each bytes_of (lacking own (m ∷ []))) ≤ length bytes

-- The modules of a file, likewise.
pub record Gathering (house names places : List ℕ) (modules : ℕ) (marks bytes : List ℕ) (done : Gathered) : Type 0 where
  pub own : List Module
  pub marked : Marks marks own
  pub shelved : Shelved house modules names places
  pub indexed : (k : ℕ) → k < modules → get_or names k 0 < length marks
  pub few : done.modules ≤ 128
  pub room : done.at + length (each bytes_of (lacking own shelved.ms)) ≤ length bytes
