-- A text of rows, one row a line. A line ends with a line feed, or with a carriage return and a line feed; what stands behind the last
-- line feed is no line yet. An empty line is a row of no values.
use Rattle.std.specs.Prelude.{ℕ, suc, ◌-◌, cond, List, [], ◌∷◌, Option, Some, None, Result, Ok, Err, eqb, length, get_or, take}
use Rattle.meaning.specs.Listing.{line_feed}
use Rattle.row_lines.specs.Words.{first_other, values_of}
use Rattle.row_lines.specs.declared.judging.Bad.{Bad}
use Rattle.row_lines.specs.declared.judging.Bad.TheVariants.{Byte, Values}
use Rattle.row_lines.specs.declared.judging.Row.{Row}

abbrev pub carriage_return : ℕ
carriage_return = 13

-- The lines of a text, each without its line feed.
abbrev pub onto : ℕ → List (List ℕ) → List (List ℕ)
onto b [] = []
onto b (line ∷ lines) = (b ∷ line) ∷ lines

unfoldable pub lines_of : List ℕ → List (List ℕ)
lines_of [] = []
lines_of (b ∷ text) = cond (eqb b line_feed) ([] ∷ lines_of text) (onto b (lines_of text))

-- A line without a carriage return at its end.
abbrev pub bare_length : List ℕ → ℕ
bare_length line = cond (eqb (get_or line (length line - 1) 0) carriage_return) (length line - 1) (length line)

unfoldable pub bare : List ℕ → List ℕ
bare line = take (bare_length line) line

-- How a line is no row of a module of so many inputs: its first byte that does not belong there; or, where their count is another, how many
-- values it has. Nothing where it is one.
unfoldable pub judged : (inputs : ℕ) → List ℕ → Option Bad
judged inputs word =
    cond (eqb (first_other word) (length word))
    (cond (eqb (length (values_of word)) inputs) None (Some (Values (length (values_of word)))))
    (Some (Byte (first_other word)))

-- Where the first line feed stands; the text's length where there is none.
unfoldable pub feed_at : List ℕ → ℕ
feed_at [] = 0
feed_at (b ∷ text) = cond (eqb b line_feed) 0 (suc (feed_at text))

-- The first line of a text as it is found from the front.
abbrev pub found_as : Option Bad → (bare whole : ℕ) → Result (Option Row) Bad
found_as None bare whole = Ok (Some (record { bare = bare; whole = whole }))
found_as (Some bad) bare whole = Err bad

unfoldable pub found_in : (inputs : ℕ) → List ℕ → Result (Option Row) Bad
found_in inputs text =
    cond (eqb (feed_at text) (length text)) (Ok None)
    (found_as (judged inputs (bare (take (feed_at text) text))) (length (bare (take (feed_at text) text))) (suc (feed_at text)))
