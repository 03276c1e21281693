-- What an input enters scratch as, and what giving the values at a list of slots as bytes asks.
use Rattle.std.specs.Prelude.{ℕ, ◌-◌, ◌≤◌, List, length}
use Rattle.meaning.specs.Values.{value, code}
use Rattle.meaning.specs.Ceilings.{Bytes}
use Rattle.image.specs.Slots.{Readable, values_at}

-- The number of the value that an input stands for: what floats enters as unknown.
unfoldable pub entered : ℕ → ℕ
entered input = code (value input)

-- The values at the slots are bytes, for which the buffer has room.
pub record Givable (image : List ℕ) (from to : ℕ) (scratch out : List ℕ) : Type 0 where
  pub readable : Readable image from to 0 (length scratch)
  pub bytes : Bytes (values_at 0 image from to 0 scratch)
  pub room : to - from ≤ length out
