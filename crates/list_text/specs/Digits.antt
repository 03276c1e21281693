-- A number in decimal in a buffer.
use Rattle.std.specs.Prelude.{ℕ, ◌+◌, ◌<◌, ◌≤◌, ◌^◌, ◌≡◌, List, length}
use Rattle.meaning.specs.Listing.{decimal_within}
use Rattle.image.specs.Laid.{laid}

-- The number has at most so many digits, and there is room for them.
pub record Spellable (n : ℕ) (out : List ℕ) (at : ℕ) : Type 0 where
  pub most : ℕ
  pub small : n < 10 ^ most
  pub some : 1 ≤ most
  pub room : at + most ≤ length out

-- For every such count of digits they stand at the place, the rest is as it was, and the answer is the place behind them.
pub record Spelt (n : ℕ) (out : List ℕ) (at : ℕ) (out' : List ℕ) (r : ℕ) : Type 0 where
  pub spelt : (most : ℕ) → n < 10 ^ most → 1 ≤ most → at + most ≤ length out
      → (out' ≡ laid out at (decimal_within most n)) × (r ≡ at + length (decimal_within most n))
