-- Rows of outputs as text: a line of digits for each.
use Rattle.std.specs.Prelude.{ℕ, zero, suc, ◌+◌, ◌-◌, ◌%◌, cond, ◌&&◌, List, [], ◌∷◌, ◌++◌, leb, ltb, length, take, drop}
use Rattle.meaning.specs.Layout.{each}
use Rattle.meaning.specs.Listing.{line_feed}

-- The digit of a value, as text.
abbrev pub digit : ℕ → List ℕ
digit value = (48 + value % 10) ∷ []

unfoldable pub line_text : List ℕ → List ℕ
line_text row = each digit row ++ (line_feed ∷ [])

-- The lines of rows that stand end to end, each of so many outputs, as far as there are values and there is room.
unfoldable pub lines_text : (rows outputs room : ℕ) → List ℕ → List ℕ
lines_text zero outputs room values = []
lines_text (suc rows) outputs room values =
    cond (leb outputs (length values) && ltb outputs room)
    (line_text (take outputs values) ++ lines_text rows outputs (room - suc outputs) (drop outputs values))
    []
