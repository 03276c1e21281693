-- A block of rows: the first lines of a text, as many as are asked for and fit, up to a line that is no row.
use Rattle.std.specs.Prelude.{ℕ, zero, suc, ◌+◌, ◌-◌, ◌≡◌, cond, List, [], ◌∷◌, ◌++◌, Option, Some, None, leb, length}
use Rattle.image.specs.Laid.{laid}
use Rattle.row_lines.specs.Words.{values_of}
use Rattle.row_lines.specs.Lines.{lines_of, bare, judged}
use Rattle.row_lines.specs.declared.judging.Bad.{Bad}
use Rattle.row_lines.specs.declared.lines.Block.{Block}

-- What is taken: how many rows, their values end to end, how many bytes of the text they stand in, and how the line behind them is bad,
-- if it is.
pub record Taken : Type 0 where
  pub rows : ℕ
  pub values : List ℕ
  pub long : ℕ
  pub bad : Option Bad

abbrev pub none_taken : Option Bad → Taken
none_taken bad = record { rows = 0; values = []; long = 0; bad = bad }

-- A row in front of what is taken behind it.
abbrev pub row_then : (values : List ℕ) (long : ℕ) → Taken → Taken
row_then values long t =
    record { rows = suc t.rows; values = values ++ t.values; long = suc long + t.long; bad = t.bad }

-- A line in front, if it is a row.
abbrev pub line_then : Option Bad → (values : List ℕ) (long : ℕ) → Taken → Taken
line_then None values long t = row_then values long t
line_then (Some bad) values long t = none_taken (Some bad)

unfoldable pub taken : (most room inputs : ℕ) → List (List ℕ) → Taken
taken zero room inputs lines = none_taken None
taken (suc most) room inputs [] = none_taken None
taken (suc most) room inputs (line ∷ lines) =
    cond (leb inputs room)
    (line_then (judged inputs (bare line)) (values_of (bare line)) (length line) (taken most (room - inputs) inputs lines))
    (none_taken None)

abbrev pub block_of : (rows given next : ℕ) (bad : Option Bad) → Block
block_of rows given next bad = record { rows = rows; given = given; next = next; bad = bad }

-- A block that is taken of a text: its values stand at the front of the buffer, the rest is as it was.
pub record Takes (most inputs : ℕ) (text values values' : List ℕ) (r : Block) : Type 0 where
  pub rows : r.rows ≡ (taken most (length values) inputs (lines_of text)).rows
  pub given : r.given ≡ length (taken most (length values) inputs (lines_of text)).values
  pub next : r.next ≡ (taken most (length values) inputs (lines_of text)).long
  pub bad : r.bad ≡ (taken most (length values) inputs (lines_of text)).bad
  pub put : values' ≡ laid values 0 (taken most (length values) inputs (lines_of text)).values
