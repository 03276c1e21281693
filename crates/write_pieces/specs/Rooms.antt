-- Room for a piece in a list of bytes.
use Rattle.std.specs.Prelude.{ℕ, ◌+◌, ◌≤◌, List, length}

-- From a place on the list is long enough for the piece.
pub record Room (piece list : List ℕ) (at : ℕ) : Type 0 where
  pub fits : at + length piece ≤ length list
