-- What stands in a file's numbers and is told from there, and what is written of it.
use Rattle.std.specs.Prelude.{ℕ, ◌+◌, ◌≤◌, ◌≡◌, List, length}
use Rattle.meaning.specs.Lists.{All}
use Rattle.meaning.specs.Syntax.{Occurrence, Module}
use Rattle.meaning.specs.Ceilings.{Small, OccurrenceWithin, ModuleWithin, ModulesWithin}
use Rattle.meaning.specs.Layout.{each, occurrence_numbers, module_numbers, file_numbers}
use Rattle.meaning.specs.Ndl.{occurrence_text, occurrences_text, module_text, ndl_text}
use Rattle.bytes_out.specs.Filled.{Put}
use Rattle.write_pieces.specs.Rooms.{Room}
use Rattle.image.specs.Stands.{Stands}
use Rattle.ndl_text.specs.declared.occurrences.Pen.{Pen}

-- The text stands at its place, and the pen behind it and behind the numbers that it tells.
pub record Lines (text numbers : List ℕ) (from : ℕ) (before : List ℕ) (at : ℕ) (after : List ℕ) (pen : Pen) : Type 0 where
  pub put : Put text before at after pen.at
  pub next : pen.from ≡ from + length numbers

-- An occurrence at its position in the module, with room for its text.
pub record OccurrenceTold (names numbers : List ℕ) (from position : ℕ) (out : List ℕ) (at : ℕ) : Type 0 where
  pub o : Occurrence
  pub stands : Stands numbers from (occurrence_numbers o)
  pub within : OccurrenceWithin o
  pub small : Small position
  pub long : length names ≡ 128
  pub room : Room (occurrence_text names position o) out at

-- A module's occurrences.
pub record OccurrencesTold (names numbers : List ℕ) (from count : ℕ) (out : List ℕ) (at : ℕ) : Type 0 where
  pub os : List Occurrence
  pub all : count ≡ length os
  pub few : length os ≤ 4096
  pub stands : Stands numbers from (each occurrence_numbers os)
  pub within : All OccurrenceWithin os
  pub long : length names ≡ 128
  pub room : Room (occurrences_text names 0 os) out at

pub record ModuleTold (names numbers : List ℕ) (from : ℕ) (out : List ℕ) (at : ℕ) : Type 0 where
  pub m : Module
  pub stands : Stands numbers from (module_numbers m)
  pub within : ModuleWithin m
  pub long : length names ≡ 128
  pub room : Room (module_text names m) out at

-- A file's modules.
pub record ModulesTold (names numbers : List ℕ) (from count : ℕ) (out : List ℕ) (at : ℕ) : Type 0 where
  pub ms : List Module
  pub all : count ≡ length ms
  pub few : length ms ≤ 128
  pub stands : Stands numbers from (each module_numbers ms)
  pub within : All ModuleWithin ms
  pub long : length names ≡ 128
  pub room : Room (each (module_text names) ms) out at

-- A whole file.
pub record FileTold (names numbers out : List ℕ) : Type 0 where
  pub ms : List Module
  pub is : numbers ≡ file_numbers ms
  pub within : ModulesWithin ms
  pub long : length names ≡ 128
  pub room : Room (ndl_text names ms) out 0
