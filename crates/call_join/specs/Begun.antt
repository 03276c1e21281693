-- The group's modules are gathered, and the house's are to follow.
use Rattle.std.specs.Prelude.{ℕ, ◌+◌, min, ◌≤◌, ◌≡◌, List, length}
use Rattle.meaning.specs.Syntax.{Module}
use Rattle.meaning.specs.Layout.{each}
use Rattle.meaning.specs.Ceilings.{Within}
use Rattle.meaning.specs.Reading.{holds, read, most_bytes}
use Rattle.meaning.specs.Calls.{Written}
use Rattle.meaning.specs.Shelves.{About, on_both, bytes_of, joined, join_on}
use Rattle.bytes_out.specs.Filled.{Put}
use Rattle.write_joined.specs.Marks.{Marks}
use Rattle.write_joined.specs.declared.gathering.Gathered.{Gathered}
use Rattle.join_ending.specs.Joins.{neither}

-- What joining comes to once the group's file has been read.
abbrev pub join_house : (own : List Module) (house : List ℕ) (out : ℕ) → About Written
join_house own house out = on_both (holds own) (read house) (λ own others. neither (join_on out (joined own others)))

pub record Begun (house : List ℕ) (gathered : Gathered) (marks numbers bytes : List ℕ) : Type 0 where
  pub own : List Module
  pub count : gathered.modules ≡ length own
  pub within : Within own
  pub marked : Marks marks own
  pub indexes : 16384 ≤ length marks
  pub numbers_fit : min (length house) most_bytes ≤ length numbers
  pub before : List ℕ
  pub put : Put (each bytes_of own) before 2 bytes gathered.at
  pub front : 2 ≤ length before
  pub room : gathered.at + min (length house) most_bytes ≤ length bytes
  pub kept : length bytes ≡ length before

-- How long the lists to work in are: enough for the numbers of either file, and for the bytes of both behind two more.
pub record Spaces (group house : List ℕ) (numbers bytes : ℕ) : Type 0 where
  pub group_fits : min (length group) most_bytes ≤ numbers
  pub house_fits : min (length house) most_bytes ≤ numbers
  pub bytes_fit : 2 + min (length group) most_bytes + min (length house) most_bytes ≤ bytes
