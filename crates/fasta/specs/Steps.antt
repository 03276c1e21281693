-- A file read byte by byte, and how a place of it is held in numbers: the record in a buffer, the sums in 64 bits.
use Rattle.std.specs.Prelude.{◌≡◌, ℕ, suc, ◌%◌, ◌^◌, ◌≤◌, cond, List, [], ◌∷◌, ◌++◌, map, length, take, Result, Ok, Err, ◌==◌}
use Rattle.fasta.specs.Records.{ends_line, header_mark}
use Rattle.fasta.specs.Sums.{Total, counted, refused, Sums, after_record, no_records}
use Rattle.fasta.specs.declared.lines.Line.{Line}
use Rattle.fasta.specs.declared.lines.Line.TheVariants.{Fresh, Bases, Header}
use Rattle.fasta.specs.declared.lines.Kind.{Kind}
use Rattle.fasta.specs.declared.lines.Kind.TheVariants.{End, Begin, Skip, Base}
use Rattle.refusals.specs.Refused.{refusal_at}
use Rattle.fasta.specs.declared.records.Tally.{Tally}
use Rattle.fasta.specs.declared.records.Refused.{Refused}
use Rattle.fasta.specs.declared.reading.Reading.{Reading}

-- What a byte is that ends no line.
abbrev pub kind_in : Line → (byte : ℕ) → Kind
kind_in Fresh byte = cond (byte == header_mark) Begin Base
kind_in Bases byte = Base
kind_in Header byte = Skip

abbrev pub kind_of : Line → (byte : ℕ) → Kind
kind_of line byte = cond (ends_line byte) End (kind_in line byte)

-- A place of a file: the line there, the bases of its record so far, and what the records before it come to.
pub record State : Type 0 where
  pub line : Line
  pub bases : List ℕ
  pub sums : Sums

abbrev pub start : State
start = record { line = Fresh; bases = []; sums = no_records }

-- The place behind a byte of a kind.
abbrev pub behind : (length : ℕ) → State → (byte : ℕ) → Kind → State
behind n s byte End = record { line = Fresh; bases = s.bases; sums = s.sums }
behind n s byte Begin = record { line = Header; bases = []; sums = after_record n s.bases s.sums }
behind n s byte Skip = record { line = Header; bases = s.bases; sums = s.sums }
behind n s byte Base = record { line = Bases; bases = s.bases ++ (byte ∷ []); sums = s.sums }

abbrev pub stepped : (length : ℕ) → State → (byte : ℕ) → State
stepped n s byte = behind n s byte (kind_of s.line byte)

unfoldable pub steps : (length : ℕ) → State → List ℕ → State
steps n s [] = s
steps n s (byte ∷ bytes) = steps n (stepped n s byte) bytes

-- What a file comes to that ends here.
abbrev pub ended : (length : ℕ) → State → Sums
ended n s = after_record n s.bases s.sums

-- A number in 64 bits. No file is so long that its words do not fit.
abbrev pub low : ℕ → ℕ
low k = k % 2 ^ 64

abbrev pub tally_of : Total → Result Tally Refused
tally_of (counted records words) = Ok (record { records = low records; words = low words })
tally_of (refused number place before) = Err (record { refusal = refusal_at number place; before = low before })

-- The sums are held,
pub record Kept (s : Sums) (table : List ℕ) (r : Result Tally Refused) : Type 0 where
  pub told : r ≡ tally_of s.total
  pub summed : table ≡ map low s.table

-- a record stands at the front of a buffer, as far as there is room,
pub record Front (bases buffer : List ℕ) (filled : ℕ) : Type 0 where
  pub stands : take filled buffer ≡ take (length buffer) bases
  pub count : filled ≡ length (take (length buffer) bases)

-- and both at a place of a file.
pub record Holds (s : State) (buffer table : List ℕ) (r : Reading) : Type 0 where
  pub line : r.line ≡ s.line
  pub bases : Front s.bases buffer r.filled
  pub roomy : 65536 ≤ length buffer
  pub sums : Kept s.sums table r.tally
