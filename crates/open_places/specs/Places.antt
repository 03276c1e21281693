-- The modules of a file that reads, by position: their numbers, and the places where their bytes begin.
use Rattle.std.specs.Prelude.{ℕ, min, ◌≤◌, ◌<◌, ◌≡◌, List, ◌∷◌, length, get_or, drop, Result, Ok, Err}
use Rattle.meaning.specs.Syntax.{Module}
use Rattle.meaning.specs.Layout.{each, number_bytes}
use Rattle.meaning.specs.Ceilings.{Encodes}
use Rattle.meaning.specs.Reading.{holds, fails, read, most_modules, most_bytes}
use Rattle.refusals.specs.declared.Refusal.{Refusal}
use Rattle.read_file.specs.Held.{in_front}

-- Each module of a list begins with its number, at its start among the numbers; and there is room to name them all.
pub record Headed (numbers starts : List ℕ) (modules : ℕ) (names : List ℕ) : Type 0 where
  pub ms : List Module
  pub all : modules ≡ length ms
  pub started : length ms ≤ length starts
  pub inside : (k : ℕ) → k < length ms → get_or starts k 0 < length numbers
  pub head : (k : ℕ) {m : Module} {later : List Module} → drop k ms ≡ m ∷ later → get_or numbers (get_or starts k 0) 0 ≡ m.number
  pub room : length ms ≤ length names

-- The number of each module, by its position.
pub record Named (ms : List Module) (names : List ℕ) : Type 0 where
  pub name : (k : ℕ) {m : Module} {later : List Module} → drop k ms ≡ m ∷ later → get_or names k 0 ≡ m.number

-- The lists are long enough for every file that is not too long, with one place more than there are modules.
pub record Space (file numbers names places : List ℕ) : Type 0 where
  pub numbers_fit : min (length file) most_bytes ≤ length numbers
  pub names_fit : most_modules ≤ length names
  pub places_fit : most_modules < length places

-- A file of so many modules reads. Its modules' numbers stand in one list, and in the other where each begins, and the file's length.
pub record Shelved (file : List ℕ) (modules : ℕ) (names places : List ℕ) : Type 0 where
  pub ms : List Module
  pub all : modules ≡ length ms
  pub reads : read file ≡ holds ms
  pub encodes : Encodes file ms
  pub listed : length ms ≤ length names
  pub marked : length ms < length places
  pub named : Named ms names
  pub begins : (k : ℕ) → k ≤ length ms → get_or places k 0 ≡ length (each number_bytes (in_front ms k))

abbrev pub Notes : Result ℕ Refusal → (file names places : List ℕ) → Type 0
Notes (Ok count) file names places = Shelved file count names places
Notes (Err refusal) file names places = read file ≡ fails refusal.number refusal.place
