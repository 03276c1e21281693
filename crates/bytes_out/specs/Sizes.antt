-- How many bytes the first numbers of a list have, up to all of them: the state of a loop that goes through the numbers.
use Rattle.std.specs.Prelude.{ℕ, ◌+◌, ◌≤◌, ◌<◌, ◌≡◌, List, ◌++◌, length, take, get_or}
use Rattle.std.proofs.Common.{add-one, arith, append-nil, length-append, take-append-drop, take-suc}
use Rattle.meaning.specs.Layout.{each, number_bytes}
use Rattle.laws.specs.Lists.{each_append}

pub bytes-of-one-more : (xs : List ℕ) (i : ℕ) → i < length xs
    → each number_bytes (take (i + 1) xs) ≡ each number_bytes (take i xs) ++ number_bytes (get_or xs i 0)
unfolding each
bytes-of-one-more xs i h = rw (add-one, take-suc xs i 0, each_append, append-nil)

-- The first `i` numbers have `size` bytes.
pub record Sized (numbers : List ℕ) (i size : ℕ) : Type 0 where
  pub within : i ≤ length numbers
  pub is : size ≡ length (each number_bytes (take i numbers))

module _ {numbers : List ℕ} {i size : ℕ} (s : Sized numbers i size) where
  pub sized-more : {next : ℕ} → i < length numbers → next ≡ size + length (number_bytes (get_or numbers i 0))
      → Sized numbers (i + 1) next
  sized-more h e =
      record { within = omega arith; is = rw (bytes-of-one-more numbers i h, length-append) (omega arith) }

  pub sized-part : size ≤ length (each number_bytes numbers)
  sized-part = rw (← take-append-drop i numbers, each_append, length-append) (omega arith)
