-- What a C caller gets: number and place as document 02 has them, and behind the other pointers what was asked for. On a refusal nothing
-- is written but the place.
use Rattle.std.specs.Prelude.{ℕ}
use Rattle.meaning.specs.Calls.{Decision, refusal, answer}
use Rattle.meaning.specs.Filing.{Filed}

abbrev pub shelf_after : Decision ℕ → ℕ → ℕ
shelf_after (refusal number place) before = before
shelf_after (answer shelf) before = shelf

abbrev pub words_after : Decision Filed → ℕ → ℕ
words_after (refusal number place) before = before
words_after (answer filed) before = filed.words
