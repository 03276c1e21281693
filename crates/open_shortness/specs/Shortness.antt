-- A short file, whose numbers are small too.
use Rattle.std.specs.Prelude.{ℕ, ◌≤◌, ◌≡◌, List, length}
use Rattle.meaning.specs.Syntax.{Module}
use Rattle.meaning.specs.Layout.{file_numbers}
use Rattle.meaning.specs.Reading.{holds, read}
use Rattle.nets.specs.Slots.{Below}

pub record Short (file : List ℕ) : Type 0 where
  pub few : length file ≤ 1024
  pub small : (ms : List Module) → read file ≡ holds ms → Below 512 (file_numbers ms)
