-- What reading a file answers, and what it leaves in the lent lists, after a refusal too.
use Rattle.std.specs.Prelude.{ℕ, min, ◌≤◌, ◌≡◌, cond, List, [], map, leb, length, Result, Ok, Err}
use Rattle.meaning.specs.Layout.{file_numbers}
use Rattle.meaning.specs.Reading.{File, holds, fails, read_count, read, most_modules, most_bytes}
use Rattle.refusals.specs.Refused.{refusal_at}
use Rattle.refusals.specs.declared.Refusal.{Refusal}
use Rattle.read_parts.specs.Numbers.{before, laid}
use Rattle.read_file.specs.Starts.{behind, begun, numbers_to}
use Rattle.read_file.specs.declared.Extent.{Extent}

-- The answer that each file is.
abbrev pub reading_of : File → Result Extent Refusal
reading_of (holds ms) = Ok (record { modules = length ms; numbers = length (file_numbers ms) })
reading_of (fails number place) = Err (refusal_at number place)

-- Where reading ends: behind the last byte, or at the refusal's place.
abbrev pub end_of : List ℕ → File → ℕ
end_of bytes (holds ms) = length bytes
end_of bytes (fails number place) = place

-- The numbers that stand in front of where reading ends. A count over its ceiling is not among them.
unfoldable pub numbers_of : List ℕ → List ℕ
numbers_of bytes = before bytes (end_of bytes (read bytes))

-- The place of each module that reading begins.
unfoldable pub offsets_of : List ℕ → List ℕ
offsets_of bytes = cond (leb (length bytes) most_bytes) (behind begun (read_count most_modules 0 bytes)) []

-- How many numbers stand in front of each.
unfoldable pub starts_of : List ℕ → List ℕ
starts_of bytes = map (numbers_to bytes) (offsets_of bytes)

-- The lent lists are long enough for every file that is not too long.
pub record Room (bytes numbers starts offsets : List ℕ) : Type 0 where
  pub numbers_fit : min (length bytes) most_bytes ≤ length numbers
  pub starts_fit : most_modules ≤ length starts
  pub offsets_fit : most_modules ≤ length offsets

-- What the answer is, and what each list holds after: its first entries replaced, and the rest as it was.
pub record Decoded (bytes numbers numbers' starts starts' offsets offsets' : List ℕ) (reading : Result Extent Refusal) : Type 0 where
  pub answers : reading ≡ reading_of (read bytes)
  pub numbers_laid : numbers' ≡ laid (numbers_of bytes) numbers
  pub starts_laid : starts' ≡ laid (starts_of bytes) starts
  pub offsets_laid : offsets' ≡ laid (offsets_of bytes) offsets
