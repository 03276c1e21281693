-- The modules of a file read one after the other, and where each begins noted in two lists.
use Rattle.std.specs.Prelude.{ℕ, ◌≤◌, ◌≡◌, List, map, length, drop, Result}
use Rattle.meaning.specs.Reading.{read_count, read_many, read_module, read_modules, most_modules}
use Rattle.refusals.specs.declared.Refusal.{Refusal}
use Rattle.read_parts.specs.Numbers.{laid}
use Rattle.read_file.specs.Starts.{behind, begun, numbers_to}
use Rattle.read_parts.specs.Steps.{Takes}
use Rattle.read_parts.specs.declared.way.Spot.{Spot}

-- There is room for the places of so many modules.
pub record Fit (count : ℕ) (starts offsets : List ℕ) : Type 0 where
  pub in_numbers : count ≤ length starts
  pub in_bytes : count ≤ length offsets

-- The places are laid out in one list, and the count of numbers in front of each in the other.
pub record Noted (bytes places starts starts' offsets offsets' : List ℕ) : Type 0 where
  pub in_numbers : starts' ≡ laid (map (numbers_to bytes) places) starts
  pub in_bytes : offsets' ≡ laid places offsets

-- The places of so many modules from where reading stands.
abbrev pub places_from : List ℕ → ℕ → Spot → List ℕ
places_from bytes n spot = begun n spot.place (drop spot.place bytes)

-- So many modules are read and noted.
pub record Passed
    (bytes : List ℕ) (start : Spot) (count : ℕ) (numbers numbers' starts starts' offsets offsets' : List ℕ) (next : Result Spot Refusal)
    : Type 0 where
  pub took : Takes (read_many read_module count) bytes start numbers numbers' next
  pub noted : Noted bytes (places_from bytes count start) starts starts' offsets offsets'

-- Where reading a file begins.
abbrev pub first : Spot
first = record { place = 0; filled = 0 }

-- The count of modules is read, and then the modules are read and noted.
pub record Through (bytes numbers numbers' starts starts' offsets offsets' : List ℕ) (next : Result Spot Refusal) : Type 0 where
  pub took : Takes read_modules bytes first numbers numbers' next
  pub noted : Noted bytes (behind begun (read_count most_modules 0 bytes)) starts starts' offsets offsets'
