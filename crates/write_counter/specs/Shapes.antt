-- What module 32 of the counter of a width comes to.
use Rattle.std.specs.Prelude.{ℕ, ◌≤◌, ◌≡◌, length}
use Rattle.meaning.specs.Counter.{digits as digits_of, last_count, counter_module}
use Rattle.write_counter.specs.declared.Shape.{Shape}

pub record Shaped (width : ℕ) (shape : Shape) : Type 0 where
  pub occurrences : shape.occurrences ≡ length (counter_module width).occurrences
  pub last : shape.last ≡ last_count 0 0 width (digits_of width)
  pub nets : shape.last ≤ 211
  pub digits : shape.digits ≡ length (digits_of width)
