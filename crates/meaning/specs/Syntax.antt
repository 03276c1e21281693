-- What a file holds: a list of modules. Names are numbers.
use Rattle.std.specs.Prelude.{ℕ, List}

-- An occurrence drives nets by the gate or module that it refers to, on argument nets.
pub record Occurrence : Type 0 where
  pub drives : List ℕ
  pub refers : ℕ
  pub takes : List ℕ

pub record Module : Type 0 where
  pub number : ℕ
  pub inputs : List ℕ
  pub outputs : List ℕ
  pub occurrences : List Occurrence
