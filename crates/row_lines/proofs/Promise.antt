-- What the contracts come to: one outcome; blocks one after the other take the whole text; and where all of them fit, the lines of output
-- rows are the rows' own.
use Prim.Native.Nat.{ℕ, zero, suc, ◌+◌, ◌*◌, ◌-◌, ◌≤◌, ◌<◌}
use mathlib.Core.Path.{◌≡◌, refl, sym, ap, ◌∙◌}
use mathlib.Core.Bool.{Bool, true, false, cond}
use mathlib.Core.List.{List, ◌∷◌, ◌++◌}
use native.Mathlib.Omega.{arith}
use native.Mathlib.Nat.{suc-mul}
use lib.Dec.{eqb, leb}
use lib.ListN.{length, take, drop, length-drop}
use lib.Seq.{drop-drop, length-take-le}
use borrow.Author.Tests.{eqb-true, eqb-false}
use Rattle.meaning.specs.Layout.{each}
use Rattle.meaning.specs.Rows.{rows_of}
use Rattle.row_lines.specs.Words.{values_of}
use Rattle.row_lines.specs.Lines.{lines_of, bare, judged, feed_at}
use Rattle.row_lines.specs.Blocks.{Taken, none_taken, line_then, taken, Takes}
use Rattle.row_lines.specs.Digits.{line_text, lines_text}
use Rattle.std.proofs.Common.{Option, Some, None}
use Rattle.row_lines.specs.declared.judging.Bad.{Bad}
use Rattle.row_lines.specs.declared.lines.Block.{Block}
use Rattle.row_lines.proofs.Feeds.{feed-within, lines-first, lines_none}
use Rattle.row_lines.proofs.Texts.{lines_more}

-- Any two outcomes of a block coincide.
pub one_block : {most inputs : ℕ} {text values v w : List ℕ} {r s : Block} → Takes most inputs text values v r → Takes most inputs text values w s
    → (v ≡ w) × (r ≡ s)
one_block a b = (
  a.put ∙ sym b.put,
  same (a.rows ∙ sym b.rows) (a.given ∙ sym b.given) (a.next ∙ sym b.next) (a.bad ∙ sym b.bad),
)
  where
    same : {r s : Block} → r.rows ≡ s.rows → r.given ≡ s.given → r.next ≡ s.next → r.bad ≡ s.bad → r ≡ s
    same e f g h = λ i. record { rows = e i; given = f i; next = g i; bad = h i }

-- The lines behind a block's rows are those of the text behind the block.
pub lines-behind : (most room inputs : ℕ) (text : List ℕ)
    → let t = taken most room inputs (lines_of text) in
    drop t.rows (lines_of text) ≡ lines_of (drop t.long text)
unfolding taken
lines-behind zero room inputs text = refl
lines-behind (suc most) room inputs text =
    go (eqb (feed_at text) (length text)) refl (lines-behind most (room - inputs) inputs (drop (suc (feed_at text)) text))
  where
    rest : List ℕ
    rest = drop (suc (feed_at text)) text

    later : Taken
    later = taken most (room - inputs) inputs (lines_of rest)

    -- Behind the first line, if that is a row that fits.
    first : (t : Bool) (j : Option Bad) (line : List ℕ) → length line ≡ feed_at text
        → let u = cond t (line_then j (values_of (bare line)) (length line) later) (none_taken None) in
        lines_of text ≡ line ∷ lines_of rest → drop later.rows (lines_of rest) ≡ lines_of (drop later.long rest)
        → drop u.rows (lines_of text) ≡ lines_of (drop u.long text)
    first false j line long e behind = refl
    first true (Some bad) line long e behind = refl
    first true None line long e behind =
        ap (drop (suc later.rows)) e
        ∙ behind
        ∙ ap lines_of (drop-drop later.long (suc (feed_at text)) text ∙ ap (λ (n : ℕ). drop (suc n + later.long) text) (sym long))

    go : (t : Bool) → eqb (feed_at text) (length text) ≡ t → drop later.rows (lines_of rest) ≡ lines_of (drop later.long rest)
        → let u = taken (suc most) room inputs (lines_of text) in
        drop u.rows (lines_of text) ≡ lines_of (drop u.long text)
    go true e behind = let none = lines_none text (eqb-true (feed_at text) (length text) e) in rw none (sym none)
    go false e behind =
        let h = feed-within text in
        let more : feed_at text < length text = omega (arith, eqb-false (feed_at text) (length text) e) in
        let line = take (feed_at text) text in
        let lines = lines-first text more in
        rw (ap (taken (suc most) room inputs) lines)
        (first (leb inputs room) (judged inputs (bare line)) line (length-take-le (feed_at text) text h) lines behind)

-- All lines, where there are all values and there is room.
pub all_lines : (rows outputs room : ℕ) (values : List ℕ) → rows * outputs ≤ length values → rows * suc outputs ≤ room
    → lines_text rows outputs room values ≡ each line_text (rows_of rows outputs values)
unfolding lines_text each rows_of
all_lines zero outputs room values h g = refl
all_lines (suc rows) outputs room values h g =
    lines_more outputs room values rows (omega (arith, suc-mul rows outputs)) (omega (arith, suc-mul rows (suc outputs)))
    ∙ ap (λ (l : List ℕ). line_text (take outputs values) ++ l)
    (all_lines rows outputs (room - suc outputs) (drop outputs values)
    (omega (arith, suc-mul rows outputs, length-drop outputs values))
    (omega (arith, suc-mul rows (suc outputs))))
