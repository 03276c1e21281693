-- Words laid as rows: what is asked of the lists.
use Rattle.std.specs.Prelude.{ℕ, ◌+◌, ◌*◌, ◌-◌, ◌≤◌, ◌<◌, ◌≡◌, List, ◌++◌, length, drop, get_or, replicate}
use Rattle.std.specs.Int.Bits.{bit_and}
use Rattle.laws.specs.RowParts.{part}

-- A mask that keeps the first so many of 32 bytes.
abbrev pub mask_of : (kept : ℕ) → List ℕ
mask_of kept = replicate kept 255 ++ drop kept (replicate 32 0)

-- 32 entries from a place on, each masked.
pub record Masked (bits : List ℕ) (from : ℕ) (mask row : List ℕ) : Type 0 where
  pub whole : length row ≡ 32
  pub at : (k : ℕ) → k < 32 → get_or row k 0 ≡ bit_and (get_or bits (from + k) 0) (get_or mask k 0)

pub record Maskable (bits from row : ℕ) : Type 0 where
  pub long : from + 32 ≤ bits
  pub whole : row ≡ 32

-- Rows that are laid: the first starts furthest behind in the bits.
pub record Rowed (count : ℕ) (bits mask : List ℕ) (done : ℕ) (values : List ℕ) : Type 0 where
  pub whole : length values ≡ count * 32
  pub row : (i : ℕ) → i < done → Masked bits (2 * (count - 1 - i)) mask (part 32 i values)

pub record Rowable (count bits values : ℕ) : Type 0 where
  pub most : count ≤ 1024
  pub long : 2 * count + 30 ≤ bits
  pub whole : values ≡ count * 32

-- Words of a length in so many bases, at least one and at most 1,024.
pub record Layable (bases n bits values : ℕ) : Type 0 where
  pub some : 1 ≤ n
  pub few : n ≤ 16
  pub count : ℕ
  pub one : 1 ≤ count
  pub most : count ≤ 1024
  pub words : bases + 1 ≡ count + n
  pub long : 2 * count + 30 ≤ bits
  pub whole : values ≡ count * 32
