-- What writing a rewritten module asks, and a rewritten file.
use Rattle.std.specs.Prelude.{ℕ, ◌+◌, ◌*◌, ◌≤◌, ◌<◌, ◌≡◌, List, ◌∷◌, length, get_or, drop}
use Rattle.meaning.specs.Lists.{All}
use Rattle.meaning.specs.Syntax.{Module}
use Rattle.meaning.specs.Ceilings.{Small}
use Rattle.meaning.specs.Layout.{module_numbers, encode}
use Rattle.meaning.specs.Reading.{most_modules, most_occurrences}
use Rattle.meaning.specs.Withdrawn.{mentioned, unused, rewrite_module, rewrite_file}
use Rattle.laws.specs.Written.{module_bytes}
use Rattle.laws.specs.Withdrawn.Suits.{fours, Suits}
use Rattle.image.specs.Stands.{Stands}
use Rattle.rewrite_bytes.specs.Bodies.{Single}

-- A module stands at a place, and the table has lower stamps alone.
pub record ModuleMarkable (numbers : List ℕ) (start : ℕ) (table : List ℕ) (stamp : ℕ) : Type 0 where
  pub m : Module
  pub stands : Stands numbers start (module_numbers m)
  pub small : All Small numbers
  pub wide : length table ≡ 16384
  pub older : (x : ℕ) → get_or table x 0 < stamp

-- It can be rewritten with the numbers unused in it.
pub record Suited (m : Module) : Type 0 where
  pub suits : Suits (mentioned m) (unused m) m.occurrences
  pub single : All Single m.occurrences
  pub few : length m.occurrences + 2 * fours m.occurrences ≤ most_occurrences

pub record ModuleWritable (numbers : List ℕ) (start own : ℕ) (table : List ℕ) (stamp : ℕ) (out : List ℕ) (to : ℕ) : Type 0 where
  pub there : ModuleMarkable numbers start table stamp
  pub suited : Suited there.m
  pub owned : own ≡ fours there.m.occurrences
  pub room : to + length (module_bytes (rewrite_module there.m)) ≤ length out

-- The bytes of a module stand in its file between its place and the next.
pub record Part (file offsets : List ℕ) (k : ℕ) (m : Module) : Type 0 where
  pub stands : Stands file (get_or offsets k 0) (module_bytes m)
  pub next : get_or offsets (k + 1) 0 ≡ get_or offsets k 0 + length (module_bytes m)

-- The modules of a file stand at their starts, in numbers and in bytes, and the table has how many of the four gates each has.
pub record Rewritable (file numbers starts offsets : List ℕ) (modules : ℕ) (own : List ℕ) (out : ℕ) : Type 0 where
  pub ms : List Module
  pub all : modules ≡ length ms
  pub few : length ms ≤ most_modules
  pub small : All Small numbers
  pub starts_long : length ms ≤ length starts
  pub offsets_long : length ms < length offsets
  pub own_long : length ms ≤ length own
  pub stands : (k : ℕ) (m : Module) (later : List Module) → drop k ms ≡ m ∷ later → Stands numbers (get_or starts k 0) (module_numbers m)
  pub parts : (k : ℕ) (m : Module) (later : List Module) → drop k ms ≡ m ∷ later → Part file offsets k m
  pub owned : (k : ℕ) (m : Module) (later : List Module) → drop k ms ≡ m ∷ later → get_or own k 0 ≡ fours m.occurrences
  pub suited : All Suited ms
  pub room : length (encode (rewrite_file ms)) ≤ out
