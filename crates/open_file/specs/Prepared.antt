-- A file made ready for calls: read, checked and measured.
use Rattle.std.specs.Prelude.{ℕ, Result, Ok, Err, ◌+◌, ◌≤◌, min, ◌≡◌, List, ◌∷◌, length, get_or, drop}
use Rattle.meaning.specs.Syntax.{Module}
use Rattle.meaning.specs.Layout.{file_numbers}
use Rattle.meaning.specs.Limits.{net_count, body_size, expanded_size}
use Rattle.meaning.specs.Figures.{largest_referred, room}
use Rattle.meaning.specs.Reading.{holds, read, most_bytes, most_modules}
use Rattle.meaning.specs.Verdict.{refused, verdict}
use Rattle.nets.specs.Slots.{Below}
use Rattle.check_lists.specs.Numbering.{Naming}
use Rattle.check_lists.specs.Scene.{Indexes}
use Rattle.check_steps.specs.Found.{Found}
use Rattle.refusals.specs.declared.Refusal.{Refusal}
use Rattle.open_finding.specs.Standing.{Held}

-- The lists that the work is done in are long enough for the file, its numbers are indices of the two tables, and nothing is entered in
-- the tables yet.
pub record Space (file image starts names nets sizes rooms first slots : List ℕ) : Type 0 where
  pub image_long : min (length file) most_bytes ≤ length image
  pub starts_long : most_modules ≤ length starts
  pub names_long : most_modules ≤ length names
  pub nets_long : most_modules ≤ length nets
  pub sizes_long : most_modules ≤ length sizes
  pub rooms_long : most_modules ≤ length rooms
  pub indexes : (ms : List Module) → read file ≡ holds ms → Indexes first slots (file_numbers ms)
  pub clear_first : (x : ℕ) → get_or first x 0 ≡ 0
  pub low_slots : Below 65536 slots
  pub low_sizes : Below 65536 sizes
  pub low_rooms : Below 65536 rooms

-- An accepted file stands in the lists, its modules' numbers, sizes and rooms by position.
pub record Opened (file : List ℕ) (modules : ℕ) (image starts names nets sizes rooms : List ℕ) : Type 0 where
  pub ms : List Module
  pub reads : read file ≡ holds ms
  pub all : modules ≡ length ms
  pub held : Held image starts nets ms
  pub named : Naming names ms
  pub sizes_long : length ms ≤ length sizes
  pub rooms_long : length ms ≤ length rooms
  pub sizes_are : (k : ℕ) (m : Module) (later : List Module) → drop k ms ≡ m ∷ later → get_or sizes k 0 ≡ body_size (expanded_size later) m.occurrences
  pub rooms_are : (k : ℕ) (m : Module) (later : List Module) → drop k ms ≡ m ∷ later → get_or rooms k 0 ≡ net_count m + largest_referred (room later) m.occurrences

-- What the check found, as an answer on the file of so many modules.
abbrev pub prepared_of : Found → (modules : ℕ) → Result ℕ Refusal
prepared_of (Ok fine) modules = Ok modules
prepared_of (Err refusal) modules = Err refusal

abbrev pub Prepares : Result ℕ Refusal → (file image starts names nets sizes rooms : List ℕ) → Type 0
Prepares (Ok modules) file image starts names nets sizes rooms = Opened file modules image starts names nets sizes rooms
Prepares (Err refusal) file image starts names nets sizes rooms = verdict file ≡ refused refusal.number refusal.place

-- Some file stands ready in the lists.
pub record Open (image starts names nets sizes rooms : List ℕ) (modules : ℕ) : Type 0 where
  pub file : List ℕ
  pub opened : Opened file modules image starts names nets sizes rooms
