-- The buffer that a text is read into, piece by piece.
use Rattle.std.specs.Prelude.{ℕ, ◌-◌, cond, not, ◌&&◌, List, [], ◌∷◌, eqb, leb, ltb, length, get_or, take, drop}
use Rattle.meaning.specs.Listing.{line_feed}

-- What is put behind a text that fills a buffer so far, so that its last line ends too: a line feed, unless the text is empty or ends
-- with one, or the buffer is full.
unfoldable pub last_end : (filled : ℕ) → List ℕ → List ℕ
last_end filled text =
    cond (ltb 0 filled && (ltb filled (length text) && not (eqb (get_or text (filled - 1) 0) line_feed))) (line_feed ∷ []) []

-- What stands from a place up to another; nothing where there are no such places.
unfoldable pub moved : (from to : ℕ) → List ℕ → List ℕ
moved from to text = cond (leb from to && leb to (length text)) (take (to - from) (drop from text)) []
