-- What the code's answers say of a step of reading, and what is laid out by then.
use Rattle.std.specs.Prelude.{ℕ, ◌-◌, ◌≤◌, ◌<◌, ◌≡◌, List, length, drop, get_or, Result, Ok, Err}
use Rattle.meaning.specs.Syntax.{Occurrence}
use Rattle.meaning.specs.Reading.{Step, got, refused, Reader, bind, read_count, read_many, read_occurrence, most_occurrences}
use Rattle.read_parts.specs.Numbers.{before, laid}
use Rattle.read_parts.specs.Places.{Front}
use Rattle.refusals.specs.Refused.{refusal_at}
use Rattle.refusals.specs.declared.Refusal.{Refusal}
use Rattle.read_parts.specs.declared.number.Spelled.{Spelled}
use Rattle.read_parts.specs.declared.way.Spot.{Spot}

-- A module's count and list of occurrences.
abbrev pub read_body : Reader (List Occurrence)
read_body = bind (read_count most_occurrences) (read_many read_occurrence)

-- What a step says of a number.
abbrev pub number_read : Step ℕ → Result Spelled Refusal
number_read (got value place rest) = Ok (record { value = value; next = place })
number_read (refused number place) = Err (refusal_at number place)

-- The step of a reader from where reading stands.
abbrev pub step_from : {A : Type 0} → Reader A → List ℕ → Spot → Step A
step_from r bytes spot = r spot.place (drop spot.place bytes)

-- The way on from a step: the place behind what was read, and how many numbers stand in front of it.
abbrev pub way_of : {A : Type 0} → List ℕ → Step A → Result Spot Refusal
way_of bytes (got a place rest) = Ok (record { place = place; filled = length (before bytes place) })
way_of bytes (refused number place) = Err (refusal_at number place)

-- Where a way leads.
abbrev pub way_place : Result Spot Refusal → ℕ
way_place (Ok spot) = spot.place
way_place (Err refusal) = refusal.place

-- A number may begin where reading stands, the numbers in front are counted and laid out, and there is room for all that may
-- follow.
pub record Stands (bytes : List ℕ) (spot : Spot) (numbers : List ℕ) : Type 0 where
  pub front : Front bytes spot.place
  pub count : spot.filled ≡ length (before bytes spot.place)
  pub lies : laid (before bytes spot.place) numbers ≡ numbers
  pub room : length bytes ≤ length numbers

-- Some number is laid out, and the last one is there to be read back.
pub record Some (spot : Spot) (numbers : List ℕ) : Type 0 where
  pub any : 0 < spot.filled
  pub within : spot.filled - 1 < length numbers

abbrev pub last_of : Spot → List ℕ → ℕ
last_of spot numbers = get_or numbers (spot.filled - 1) 0

-- From one place to another: the numbers in front of the other are laid out, and none of those in front of the one is lost.
pub record Lays (bytes : List ℕ) (from to : ℕ) (old new : List ℕ) : Type 0 where
  pub all : new ≡ laid (before bytes to) old
  pub keeps : length (before bytes from) ≤ length (before bytes to)

-- What the code that takes a reader's step answers and leaves.
pub record Takes {A : Type 0} (r : Reader A) (bytes : List ℕ) (spot : Spot) (old new : List ℕ) (next : Result Spot Refusal) : Type 0 where
  pub answers : next ≡ way_of bytes (step_from r bytes spot)
  pub lays : Lays bytes spot.place (way_place next) old new
