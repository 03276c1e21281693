-- What the walk asks: so many occurrences stand from a place on, and the table marks the nets that are known in front of them.
use Rattle.std.specs.Prelude.{ℕ, ◌≡◌, List, length}
use Rattle.meaning.specs.Syntax.{Occurrence}
use Rattle.meaning.specs.Layout.{each, occurrence_numbers}
use Rattle.image.specs.Stands.{Stands}
use Rattle.fault_parts.specs.Asked.{Marked}

pub record Body (numbers marks : List ℕ) (at count : ℕ) : Type 0 where
  pub os : List Occurrence
  pub known : List ℕ
  pub stands : Stands numbers at (each occurrence_numbers os)
  pub counted : count ≡ length os
  pub marked : Marked marks known
