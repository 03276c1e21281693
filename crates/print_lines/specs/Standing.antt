-- What stands in a file's numbers and is told from there, and what is written of it.
use Rattle.std.specs.Prelude.{ℕ, ◌+◌, ◌≡◌, List, ◌++◌, length}
use Rattle.meaning.specs.Lists.{All}
use Rattle.meaning.specs.Syntax.{Module}
use Rattle.meaning.specs.Ceilings.{OccurrenceWithin, ModuleWithin, ModulesWithin}
use Rattle.meaning.specs.Layout.{each, occurrence_numbers, module_numbers, file_numbers}
use Rattle.meaning.specs.ListPrint.{parted, occurrence_break, occurrence_list, module_break, module_list, list_text}
use Rattle.bytes_out.specs.Filled.{Put}
use Rattle.write_pieces.specs.Rooms.{Room}
use Rattle.image.specs.Stands.{Stands}
use Rattle.print_names.specs.Entries.{leading}
use Rattle.print_lines.specs.declared.occurrences.Pen.{Pen}

-- The text stands at its place, and the pen behind it and behind the numbers that it tells.
pub record Lines (text numbers : List ℕ) (from : ℕ) (before : List ℕ) (at : ℕ) (after : List ℕ) (pen : Pen) : Type 0 where
  pub put : Put text before at after pen.at
  pub next : pen.from ≡ from + length numbers

-- An entry of a list at its position, with room for its text: an occurrence or a module, by its numbers, its text, what parts two of them,
-- and what is known of it.
pub record EntryTold {A : Type 0} (numbers_of text_of : A → List ℕ) (between : List ℕ) (Fits : A → Type 0)
    (numbers : List ℕ) (from position : ℕ) (out : List ℕ) (at : ℕ) : Type 0 where
  pub entry : A
  pub stands : Stands numbers from (numbers_of entry)
  pub within : Fits entry
  pub room : Room (leading between position ++ text_of entry) out at

-- All entries.
pub record EntriesTold {A : Type 0} (numbers_of text_of : A → List ℕ) (between : List ℕ) (Fits : A → Type 0)
    (numbers : List ℕ) (from count : ℕ) (out : List ℕ) (at : ℕ) : Type 0 where
  pub entries : List A
  pub all : count ≡ length entries
  pub stands : Stands numbers from (each numbers_of entries)
  pub within : All Fits entries
  pub room : Room (parted between text_of entries) out at

abbrev pub OccurrenceTold : (numbers : List ℕ) (from position : ℕ) (out : List ℕ) (at : ℕ) → Type 0
OccurrenceTold = EntryTold occurrence_numbers occurrence_list occurrence_break OccurrenceWithin

abbrev pub OccurrencesTold : (numbers : List ℕ) (from count : ℕ) (out : List ℕ) (at : ℕ) → Type 0
OccurrencesTold = EntriesTold occurrence_numbers occurrence_list occurrence_break OccurrenceWithin

abbrev pub ModuleTold : (numbers : List ℕ) (from position : ℕ) (out : List ℕ) (at : ℕ) → Type 0
ModuleTold = EntryTold module_numbers module_list module_break ModuleWithin

abbrev pub ModulesTold : (numbers : List ℕ) (from count : ℕ) (out : List ℕ) (at : ℕ) → Type 0
ModulesTold = EntriesTold module_numbers module_list module_break ModuleWithin

-- A whole file.
pub record FileTold (numbers out : List ℕ) : Type 0 where
  pub ms : List Module
  pub is : numbers ≡ file_numbers ms
  pub within : ModulesWithin ms
  pub room : Room (list_text ms) out 0
