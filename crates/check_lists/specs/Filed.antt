-- A list of modules stands in a list of numbers, each module at its start.
use Rattle.std.specs.Prelude.{ℕ, ◌≤◌, ◌≡◌, List, ◌∷◌, length, get_or, drop}
use Rattle.meaning.specs.Syntax.{Module}
use Rattle.meaning.specs.Layout.{module_numbers}
use Rattle.image.specs.Stands.{Stands}
use Rattle.nets.specs.Slots.{Below}

-- Module m is at position k, the modules `later` come after it.
abbrev pub At : List Module → ℕ → Module → List Module → Type 0
At ms k m later = drop k ms ≡ m ∷ later

pub record Filed (numbers starts : List ℕ) (ms : List Module) : Type 0 where
  pub standing : (k : ℕ) (m : Module) (later : List Module) → At ms k m later → Stands numbers (get_or starts k 0) (module_numbers m)
  pub listed : length ms ≤ length starts
  pub few : length ms ≤ 128

-- What numbering asks: a file of so many modules stands there, the table of numbers, all 0, has an entry for each of its numbers, and the
-- other tables have one for each module.
pub record Countable (numbers starts : List ℕ) (modules : ℕ) (first names inputs outputs : List ℕ) : Type 0 where
  pub ms : List Module
  pub filed : Filed numbers starts ms
  pub counted : modules ≡ length ms
  pub indexed : Below (length first) numbers
  pub clear : (x : ℕ) → get_or first x 0 ≡ 0
  pub names_long : modules ≤ length names
  pub inputs_long : modules ≤ length inputs
  pub outputs_long : modules ≤ length outputs
