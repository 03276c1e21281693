-- What keeping the figures of a module in the tables asks and comes to.
use Rattle.std.specs.Prelude.{ℕ, ◌+◌, ◌<◌, ◌^◌, ◌≡◌, Bool, true, false, List, leb, length, set}
use Rattle.meaning.specs.Limits.{most_size}
use Rattle.check_sizes.specs.declared.Sums.{Sums}

pub record Keepable (own : ℕ) (sums : Sums) (k : ℕ) (sizes rooms : List ℕ) : Type 0 where
  pub in_sizes : k < length sizes
  pub in_rooms : k < length rooms
  pub fits : own + sums.room < 2 ^ 32

-- Whether the size is within the limit; then the figures stand at the module's position, else nothing has changed.
pub record Kept (own : ℕ) (sums : Sums) (k : ℕ) (sizes rooms sizes' rooms' : List ℕ) (r : Bool) : Type 0 where
  pub answer : r ≡ leb sums.size most_size
  pub kept : r ≡ true → (sizes' ≡ set sizes k sums.size) × (rooms' ≡ set rooms k (own + sums.room))
  pub left : r ≡ false → (sizes' ≡ sizes) × (rooms' ≡ rooms)
