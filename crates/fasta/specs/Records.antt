-- The records of a file of bases. The file is a text: a line ends with a line feed or a carriage return, which belong to no line. A line that
-- begins with `>` is a header and begins a record; the other lines are the record's bases. Bases in front of the first header are a record
-- too, so that a file of plain bases is one record.
use Rattle.std.specs.Prelude.{ℕ, Bool, false, cond, ◌||◌, List, [], ◌∷◌, ◌++◌, ◌==◌}
use Rattle.meaning.specs.Listing.{line_feed}

abbrev pub carriage_return : ℕ
carriage_return = 13

-- `>`
abbrev pub header_mark : ℕ
header_mark = 62

abbrev pub ends_line : (byte : ℕ) → Bool
ends_line byte = byte == line_feed || byte == carriage_return

-- The first line of some lines, and those behind it; nothing where there are none.
abbrev pub first_line : List (List ℕ) → List ℕ
first_line [] = []
first_line (line ∷ lines) = line

abbrev pub other_lines : List (List ℕ) → List (List ℕ)
other_lines [] = []
other_lines (line ∷ lines) = lines

-- The lines of a text. The last one need not be ended.
unfoldable pub lines_of : List ℕ → List (List ℕ)
lines_of [] = []
lines_of (b ∷ text) =
    cond (ends_line b) ([] ∷ lines_of text) ((b ∷ first_line (lines_of text)) ∷ other_lines (lines_of text))

abbrev pub is_header : (line : List ℕ) → Bool
is_header [] = false
is_header (b ∷ line) = b == header_mark

-- What stands in front of the first header, which may be nothing, and the records behind the headers.
pub record Records : Type 0 where
  pub front : List ℕ
  pub headed : List (List ℕ)

-- A header, or a line of bases, in front of them.
abbrev pub header_then : Records → Records
header_then r = record { front = []; headed = r.front ∷ r.headed }

abbrev pub bases_then : (line : List ℕ) → Records → Records
bases_then line r = record { front = line ++ r.front; headed = r.headed }

unfoldable pub records_in : (lines : List (List ℕ)) → Records
records_in [] = record { front = []; headed = [] }
records_in (line ∷ lines) = cond (is_header line) (header_then (records_in lines)) (bases_then line (records_in lines))

-- All of them in order. The first has the number 0, and each other the number of its header, from 1 on.
abbrev pub all_of : Records → List (List ℕ)
all_of r = r.front ∷ r.headed

unfoldable pub records_of : (file : List ℕ) → List (List ℕ)
records_of file = all_of (records_in (lines_of file))
