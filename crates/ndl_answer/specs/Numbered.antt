-- The numbers of a file within the ceilings, and of how many bytes it is.
use Rattle.std.specs.Prelude.{ℕ, ◌≡◌, List, length}
use Rattle.meaning.specs.Syntax.{Module}
use Rattle.meaning.specs.Layout.{file_numbers, encode}
use Rattle.meaning.specs.Ceilings.{Within}

pub record Numbered (numbers : List ℕ) (size : ℕ) : Type 0 where
  pub ms : List Module
  pub is : numbers ≡ file_numbers ms
  pub within : Within ms
  pub sized : size ≡ length (encode ms)
