-- The nets that scratch has at a list of slots in the image, and what writing them as a list of a file asks.
use Rattle.std.specs.Prelude.{ℕ, ◌+◌, ◌≤◌, List, length}
use Rattle.meaning.specs.Ceilings.{NetsWithin}
use Rattle.laws.specs.Written.{nets_bytes}
use Rattle.image.specs.Slots.{Readable, values_at}

abbrev pub nets_at : (image : List ℕ) (from to : ℕ) (scratch : List ℕ) → List ℕ
nets_at image from to scratch = values_at 0 image from to 0 scratch

-- They can be read and written, and there is room for the bytes.
pub record Listable (image : List ℕ) (from to : ℕ) (scratch bytes : List ℕ) (at : ℕ) : Type 0 where
  pub readable : Readable image from to 0 (length scratch)
  pub within : NetsWithin (nets_at image from to scratch)
  pub room : at + length (nets_bytes (nets_at image from to scratch)) ≤ length bytes
