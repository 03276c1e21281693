-- What stands in a lent buffer once something is written into it.
use Rattle.std.specs.Prelude.{ℕ, ◌+◌, ◌≡◌, List, ◌++◌, length, take, drop}

-- An answer fills the first bytes of the buffer and leaves the rest.
pub record Filled (answer before after : List ℕ) (count : ℕ) : Type 0 where
  pub size : count ≡ length answer
  pub holds : after ≡ answer ++ drop count before

-- Bytes at a place of the buffer, and the place behind them.
pub record Put (bytes before : List ℕ) (at : ℕ) (after : List ℕ) (next : ℕ) : Type 0 where
  pub place : next ≡ at + length bytes
  pub holds : after ≡ take at before ++ (bytes ++ drop next before)
