-- What a step finds, as lines of the text: a row and the lines behind it, or what ends the block.
use Prim.Native.Nat.{ℕ, zero, suc, ◌-◌, ◌≤◌, ◌<◌}
use mathlib.Core.Path.{◌≡◌, refl, sym, ap, subst, ◌∙◌}
use mathlib.Core.Bool.{Bool, true, false, cond}
use mathlib.Core.List.{List, [], ◌∷◌}
use native.Mathlib.Omega.{arith}
use lib.Dec.{eqb, leb}
use lib.ListN.{length, take, drop, length-append}
use lib.Seq.{length-take-le}
use borrow.Author.Tests.{eqb-true, eqb-false, le-leb, leb-true}
use Rattle.row_lines.specs.Words.{first_other, values_of}
use Rattle.row_lines.specs.Lines.{lines_of, bare, bare_length, judged, feed_at, found_as, found_in}
use Rattle.row_lines.specs.Blocks.{Taken, none_taken, line_then, taken}
use Rattle.std.proofs.Common.{Option, Some, None, Result, Ok, Err}
use Rattle.row_lines.specs.declared.judging.Bad.{Bad}
use Rattle.row_lines.specs.declared.judging.Bad.TheVariants.{Byte, Values}
use Rattle.row_lines.specs.declared.judging.Row.{Row}
use Rattle.row_lines.proofs.Feeds.{feed-within, bare-within, word_of, lines-first, lines_none}

pub record FoundRow (inputs : ℕ) (text : List ℕ) (short whole : ℕ) : Type 0 where
  pub line : List ℕ
  pub lines : lines_of text ≡ line ∷ lines_of (drop whole text)
  pub row : judged inputs (bare line) ≡ None
  pub word : bare line ≡ take short text
  pub inside : short ≤ whole
  pub long : whole ≡ suc (length line)
  pub within : whole ≤ length text

module _ (inputs : ℕ) (text : List ℕ) where
  feed : ℕ
  feed = feed_at text

  first : List ℕ
  first = take feed text

  abbrev there : Option Bad → Result (Option Row) Bad
  there bad = found_as bad (length (bare first)) (suc feed)

  below : eqb feed (length text) ≡ false → feed < length text
  unfolding feed
  below e = let h = feed-within text in omega (arith, eqb-false (feed_at text) (length text) e)

  row-there : judged inputs (bare first) ≡ None → feed < length text → FoundRow inputs text (length (bare first)) (suc feed)
  unfolding feed first
  row-there row more =
      record {
        line = first;
        lines = lines-first text more;
        row = row;
        word = word ∙ ap (λ (n : ℕ). take n text) (sym word-long);
        inside = omega (arith, word-long, bare-within first, first-long);
        long = ap suc (sym first-long);
        within = omega arith;
      }
    where
      first-long : length first ≡ feed
      first-long = length-take-le feed text (omega arith)

      word : bare first ≡ take (bare_length first) text
      word = word_of text feed (omega arith)

      word-long : length (bare first) ≡ bare_length first
      word-long = ap length word ∙ length-take-le (bare_length first) text (omega (arith, bare-within first, first-long))

  pub found-row : {short whole : ℕ} → found_in inputs text ≡ Ok (Some (record { bare = short; whole = whole })) → FoundRow inputs text short whole
  unfolding found_in feed first
  found-row {short} {whole} e = go (eqb feed (length text)) refl e
    where
      as_row : (bad : Option Bad) → judged inputs (bare first) ≡ bad → feed < length text → there bad ≡ Ok (Some (record { bare = short; whole = whole }))
          → FoundRow inputs text short whole
      as_row None row more e =
          let same : ◌≡◌ {A = Row} (record { bare = length (bare first); whole = suc feed }) (record { bare = short; whole = whole }) = cc in
          let same-short : length (bare first) ≡ short = ap (λ (r : Row). r.bare) same in
          let same_whole : suc feed ≡ whole = ap (λ (r : Row). r.whole) same in
          subst (FoundRow inputs text short) same_whole
          (subst (λ (n : ℕ). FoundRow inputs text n (suc feed)) same-short (row-there row more))
      as_row (Some bad) row more e = let z : ◌≡◌ {A = ℕ} 0 1 = cc in absurd (omega arith)

      go : (t : Bool) → eqb feed (length text) ≡ t → cond t (Ok None) (there (judged inputs (bare first))) ≡ Ok (Some (record { bare = short; whole = whole }))
          → FoundRow inputs text short whole
      go true test e = let z : ◌≡◌ {A = ℕ} 0 1 = cc in absurd (omega arith)
      go false test e = as_row (judged inputs (bare first)) refl (below test) e

  -- No line ends any more,
  pub found-end : (k room : ℕ) → found_in inputs text ≡ Ok None → taken (suc k) room inputs (lines_of text) ≡ none_taken None
  unfolding found_in feed first taken
  found-end k room e = go (eqb feed (length text)) refl e
    where
      no_row : (bad : Option Bad) → there bad ≡ Ok None → taken (suc k) room inputs (lines_of text) ≡ none_taken None
      no_row None e = let z : ◌≡◌ {A = ℕ} 0 1 = cc in absurd (omega arith)
      no_row (Some bad) e = let z : ◌≡◌ {A = ℕ} 0 1 = cc in absurd (omega arith)

      go : (t : Bool) → eqb feed (length text) ≡ t → cond t (Ok None) (there (judged inputs (bare first))) ≡ Ok None
          → taken (suc k) room inputs (lines_of text) ≡ none_taken None
      go true test e = rw (lines_none text (eqb-true feed (length text) test))
      go false test e = no_row (judged inputs (bare first)) e

  -- or the next is bad.
  pub found-bad : {bad : Bad} (k room : ℕ) → inputs ≤ room → found_in inputs text ≡ Err bad
      → taken (suc k) room inputs (lines_of text) ≡ none_taken (Some bad)
  unfolding found_in feed first taken
  found-bad {bad} k room h e = go (eqb feed (length text)) refl e
    where
      as_bad : (j : Option Bad) → judged inputs (bare first) ≡ j → feed < length text → there j ≡ Err bad
          → taken (suc k) room inputs (lines_of text) ≡ none_taken (Some bad)
      as_bad None judge more e = let z : ◌≡◌ {A = ℕ} 0 1 = cc in absurd (omega arith)
      as_bad (Some found) judge more e =
          let same : found ≡ bad = cc in
          rw (lines-first text more, le-leb inputs room h, judge) (ap (λ (b : Bad). none_taken (Some b)) same)

      go : (t : Bool) → eqb feed (length text) ≡ t → cond t (Ok None) (there (judged inputs (bare first))) ≡ Err bad
          → taken (suc k) room inputs (lines_of text) ≡ none_taken (Some bad)
      go true test e = let z : ◌≡◌ {A = ℕ} 0 1 = cc in absurd (omega arith)
      go false test e = as_bad (judged inputs (bare first)) refl (below test) e

-- A row has as many values as the module has inputs.
pub row_count : (inputs : ℕ) (word : List ℕ) → judged inputs word ≡ None → length (values_of word) ≡ inputs
unfolding judged
row_count inputs word e = go (eqb (first_other word) (length word)) e
  where
    counted : (t : Bool) → eqb (length (values_of word)) inputs ≡ t → cond t None (Some (Values (length (values_of word)))) ≡ None
        → length (values_of word) ≡ inputs
    counted true test e = eqb-true (length (values_of word)) inputs test
    counted false test e = let z : ◌≡◌ {A = ℕ} 0 1 = cc in absurd (omega arith)

    go : (t : Bool)
        → cond t (cond (eqb (length (values_of word)) inputs) None (Some (Values (length (values_of word))))) (Some (Byte (first_other word))) ≡ None
        → length (values_of word) ≡ inputs
    go true e = counted (eqb (length (values_of word)) inputs) refl e
    go false e = let z : ◌≡◌ {A = ℕ} 0 1 = cc in absurd (omega arith)

-- The values of a block fit.
pub taken-fits : (most room inputs : ℕ) (lines : List (List ℕ)) → length (taken most room inputs lines).values ≤ room
unfolding taken
taken-fits zero room inputs lines = omega arith
taken-fits (suc most) room inputs [] = omega arith
taken-fits (suc most) room inputs (line ∷ lines) =
    go (leb inputs room) refl (judged inputs (bare line)) refl (taken-fits most (room - inputs) inputs lines)
  where
    rest : Taken
    rest = taken most (room - inputs) inputs lines

    go : (t : Bool) → leb inputs room ≡ t → (j : Option Bad) → judged inputs (bare line) ≡ j → length rest.values ≤ room - inputs
        → length (cond t (line_then j (values_of (bare line)) (length line) rest) (none_taken None)).values ≤ room
    go false test j e short = omega arith
    go true test None e short =
        let h = leb-true inputs room test in
        omega (arith, row_count inputs (bare line) e, length-append (values_of (bare line)) rest.values)
    go true test (Some bad) e short = omega arith
