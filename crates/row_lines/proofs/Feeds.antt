-- Where a line ends, and what a step finds there.
use Prim.Native.Nat.{ℕ, suc, ◌+◌, ◌-◌, ◌≤◌, ◌<◌}
use mathlib.Core.Path.{◌≡◌, refl, sym, ap, ap₂, ◌∙◌}
use mathlib.Core.Bool.{Bool, true, false, cond}
use mathlib.Core.List.{List, [], ◌∷◌}
use native.Mathlib.Omega.{arith}
use native.Mathlib.Numerals.{add-one}
use lib.Dec.{eqb}
use lib.ListN.{length, take, drop, get_or}
use lib.Seq.{take-take, length-take-le}
use borrow.Author.Tests.{ne_eqb}
use Rattle.meaning.specs.Listing.{line_feed}
use Rattle.row_lines.specs.Lines.{lines_of, onto, bare, bare_length, judged, feed_at, found_as, found_in, carriage_return}
use Rattle.std.proofs.Common.{Option, Result}
use Rattle.row_lines.specs.declared.judging.Bad.{Bad}
use Rattle.row_lines.specs.declared.judging.Row.{Row}

pub feed-within : (text : List ℕ) → feed_at text ≤ length text
unfolding feed_at
feed-within [] = omega arith
feed-within (b ∷ text) = go (eqb b line_feed) (feed-within text)
  where
    go : (t : Bool) → feed_at text ≤ length text → cond t 0 (suc (feed_at text)) ≤ suc (length text)
    go true h = omega arith
    go false h = omega arith

pub bare-within : (line : List ℕ) → bare_length line ≤ length line
bare-within line = go (eqb (get_or line (length line - 1) 0) carriage_return)
  where
    go : (t : Bool) → cond t (length line - 1) (length line) ≤ length line
    go true = omega arith
    go false = omega arith

-- A line's word is a front of the text too.
pub word_of : (text : List ℕ) (feed : ℕ) → feed ≤ length text → bare (take feed text) ≡ take (bare_length (take feed text)) text
unfolding bare
word_of text feed h =
    take-take (bare_length (take feed text)) feed text (omega (arith, bare-within (take feed text), length-take-le feed text h))

-- What is found where a line ends.
pub found-there : (inputs : ℕ) (text : List ℕ) (feed long : ℕ) (r : Result (Option Row) Bad) → feed ≡ feed_at text → (feed ≡ length text → ⊥)
    → long ≡ bare_length (take feed text)
    → r ≡ found_as (judged inputs (take long text)) (length (take long text)) (feed + 1)
    → r ≡ found_in inputs text
unfolding found_in
found-there inputs text feed long r at more short found =
    found ∙ ap₂ (λ (w : List ℕ) (n : ℕ). found_as (judged inputs w) (length w) n) word (add-one feed) ∙ there
  where
    word : take long text ≡ bare (take feed text)
    word = ap (λ (n : ℕ). take n text) short ∙ sym (word_of text feed (omega (arith, at, feed-within text)))

    there : found_as (judged inputs (bare (take feed text))) (length (bare (take feed text))) (suc feed) ≡ found_in inputs text
    there = rw (← at, ne_eqb feed (length text) more)

-- The first line of a text, and the lines behind it; none where no line ends.
pub lines-first : (text : List ℕ) → feed_at text < length text
    → lines_of text ≡ take (feed_at text) text ∷ lines_of (drop (suc (feed_at text)) text)
unfolding lines_of feed_at
lines-first [] h = absurd (omega arith)
lines-first (b ∷ text) h = go (eqb b line_feed) h (lines-first text)
  where
    go : (t : Bool) → cond t 0 (suc (feed_at text)) < suc (length text)
        → (feed_at text < length text → lines_of text ≡ take (feed_at text) text ∷ lines_of (drop (suc (feed_at text)) text))
        → cond t ([] ∷ lines_of text) (onto b (lines_of text))
        ≡ take (cond t 0 (suc (feed_at text))) (b ∷ text) ∷ lines_of (drop (suc (cond t 0 (suc (feed_at text)))) (b ∷ text))
    go true h rest = refl
    go false h rest = ap (onto b) (rest (omega arith))

pub lines_none : (text : List ℕ) → feed_at text ≡ length text → lines_of text ≡ []
unfolding lines_of feed_at
lines_none [] e = refl
lines_none (b ∷ text) e = go (eqb b line_feed) e (lines_none text)
  where
    go : (t : Bool) → cond t 0 (suc (feed_at text)) ≡ suc (length text) → (feed_at text ≡ length text → lines_of text ≡ [])
        → cond t ([] ∷ lines_of text) (onto b (lines_of text)) ≡ []
    go true e rest = absurd (omega arith)
    go false e rest = ap (onto b) (rest (omega arith))
