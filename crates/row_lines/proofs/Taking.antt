-- A block while it is taken: the rows taken and those that the lines behind them come to are always all of it.
use Prim.Native.Nat.{ℕ, zero, suc, ◌+◌, ◌-◌, ◌≤◌, ◌<◌}
use mathlib.Core.Path.{◌≡◌, refl, sym, ap, ◌∙◌}
use mathlib.Core.List.{List, [], ◌∷◌}
use native.Mathlib.Omega.{arith}
use lib.ListN.{length, take, drop, length-drop}
use lib.Seq.{take_all, drop-drop}
use borrow.Author.Tests.{le-leb, lt-leb}
use Rattle.list_text.specs.Pieces.{PutDown}
use Rattle.list_text.proofs.Pieces.{put-length}
use Rattle.row_lines.specs.Words.{values_of}
use Rattle.row_lines.specs.Lines.{lines_of, bare, judged, found_in}
use Rattle.row_lines.specs.Blocks.{Taken, none_taken, row_then, taken, block_of, Takes}
use Rattle.std.proofs.Common.{Option, Some, None, Ok, Err}
use Rattle.row_lines.specs.declared.judging.Bad.{Bad}
use Rattle.row_lines.proofs.Putting.{Goes, goes-begin, goes-piece, goes_end}
use Rattle.row_lines.proofs.Rows.{FoundRow, found-end, found-bad, row_count, taken-fits}

-- What lines come to from a place of the text on.
abbrev pub behind : (left room inputs : ℕ) (text : List ℕ) (next : ℕ) → Taken
behind left room inputs text next = taken left room inputs (lines_of (drop next text))

abbrev pub whole : (most inputs : ℕ) (text values : List ℕ) → Taken
whole most inputs text values = taken most (length values) inputs (lines_of text)

pub record Taking (most inputs : ℕ) (text values₀ values : List ℕ) (rows given next : ℕ) : Type 0 where
  pub left : ℕ
  pub room : ℕ
  pub left_is : rows + left ≡ most
  pub room-is : given + room ≡ length values
  pub inside : next ≤ length text
  pub rows_left : rows + (behind left room inputs text next).rows ≡ (whole most inputs text values₀).rows
  pub long-left : next + (behind left room inputs text next).long ≡ (whole most inputs text values₀).long
  pub bad-left : (behind left room inputs text next).bad ≡ (whole most inputs text values₀).bad
  pub goes : Goes values₀ 0 (whole most inputs text values₀).values values given (behind left room inputs text next).values

pub taking-begin : (most inputs : ℕ) (text values : List ℕ) → Taking most inputs text values values 0 0 0
taking-begin most inputs text values =
    record {
      left = most;
      room = length values;
      left_is = omega arith;
      room-is = omega arith;
      inside = omega arith;
      rows_left = omega arith;
      long-left = omega arith;
      bad-left = refl;
      goes = goes-begin values 0 _ (omega (arith, taken-fits most (length values) inputs (lines_of text)));
    }

-- A row more in front.
row-taken : (k room inputs : ℕ) (line : List ℕ) (lines : List (List ℕ)) → inputs ≤ room → judged inputs (bare line) ≡ None
    → taken (suc k) room inputs (line ∷ lines) ≡ row_then (values_of (bare line)) (length line) (taken k (room - inputs) inputs lines)
unfolding taken
row-taken k room inputs line lines h row = rw (le-leb inputs room h, row)

no_room : (k room inputs : ℕ) (lines : List (List ℕ)) → room < inputs → taken k room inputs lines ≡ none_taken None
unfolding taken
no_room zero room inputs lines h = refl
no_room (suc k) room inputs [] h = refl
no_room (suc k) room inputs (line ∷ lines) h = rw (lt-leb inputs room h)

module _ {most inputs : ℕ} {text values₀ values : List ℕ} {rows given next : ℕ} (t : Taking most inputs text values₀ values rows given next) where
  -- Nothing more is taken.
  taking-stop : (bad : Option Bad) → behind t.left t.room inputs text next ≡ none_taken bad
      → Takes most inputs text values₀ values (block_of rows given next bad)
  taking-stop bad none =
      let put = goes_end (ap (λ (r : Taken). r.values) none) t.goes in
      record {
        rows = omega (arith, ap (λ (r : Taken). r.rows) none, t.rows_left);
        given = omega (arith, put.next);
        next = omega (arith, ap (λ (r : Taken). r.long) none, t.long-left);
        bad = sym (ap (λ (r : Taken). r.bad) none) ∙ t.bad-left;
        put = put.put;
      }

  pub taking-all : most ≤ rows → Takes most inputs text values₀ values (block_of rows given next None)
  unfolding taken
  taking-all h =
      taking-stop None
      (let none : t.left ≡ 0 = omega (arith, t.left_is) in ap (λ (k : ℕ). behind k t.room inputs text next) none)

  pub taking-full : length values - given < inputs
      → Takes most inputs text values₀ values (block_of rows given next None)
  taking-full h = taking-stop None (no_room t.left t.room inputs (lines_of (drop next text)) (omega (arith, t.room-is)))

  one_more : rows < most → t.left ≡ suc (t.left - 1)
  one_more more = omega (arith, t.left_is)

  pub taking-end : rows < most → found_in inputs (drop next text) ≡ Ok None → Takes most inputs text values₀ values (block_of rows given next None)
  taking-end more e =
      taking-stop None
      (ap (λ (k : ℕ). behind k t.room inputs text next) (one_more more) ∙ found-end inputs (drop next text) (t.left - 1) t.room e)

  pub taking-bad : {bad : Bad} → rows < most → inputs ≤ length values - given → found_in inputs (drop next text) ≡ Err bad
      → Takes most inputs text values₀ values (block_of rows given next (Some bad))
  taking-bad {bad} more space e =
      taking-stop (Some bad)
      (ap (λ (k : ℕ). behind k t.room inputs text next) (one_more more)
      ∙ found-bad inputs (drop next text) (t.left - 1) t.room (omega (arith, t.room-is)) e)

  -- The row that is found next, with its values put.
  pub taking-row : {short long : ℕ} {values' : List ℕ} {given' : ℕ} → rows < most → inputs ≤ length values - given
      → FoundRow inputs (drop next text) short long
      → PutDown (take (length values - given) (values_of (take (next + short - next) (drop next text)))) values given values' given'
      → Taking most inputs text values₀ values' (rows + 1) given' (next + long)
  taking-row {short} {long} {values'} {given'} more space f d =
      record {
        left = k;
        room = t.room - inputs;
        left_is = omega (arith, one_more more, t.left_is);
        room-is = omega (arith, d'.next, count, put-length d', t.room-is);
        inside = omega (arith, f.within, length-drop next text, t.inside);
        rows_left = omega (arith, ap (λ (r : Taken). r.rows) parts, t.rows_left);
        long-left = omega (arith, ap (λ (r : Taken). r.long) parts, t.long-left, f.long);
        bad-left = sym (ap (λ (r : Taken). r.bad) parts) ∙ t.bad-left;
        goes = goes-piece (ap (λ (r : Taken). r.values) parts) d' t.goes;
      }
    where
      k : ℕ
      k = t.left - 1

      word : List ℕ
      word = bare f.line

      count : length (values_of word) ≡ inputs
      count = row_count inputs word f.row

      same_word : take (next + short - next) (drop next text) ≡ word
      same_word = let e : next + short - next ≡ short = omega arith in ap (λ (n : ℕ). take n (drop next text)) e ∙ sym f.word

      d' : PutDown (values_of word) values given values' given'
      d' = rw (take_all (length values - given) (values_of word) (omega (arith, count))) at (rw same_word at d)

      parts : behind t.left t.room inputs text next
          ≡ row_then (values_of word) (length f.line) (behind k (t.room - inputs) inputs text (next + long))
      parts =
          ap (λ (n : ℕ). behind n t.room inputs text next) (one_more more)
          ∙ ap (taken (suc k) t.room inputs) (f.lines ∙ ap (λ (l : List ℕ). f.line ∷ lines_of l) (drop-drop long next text))
          ∙ row-taken k t.room inputs f.line (lines_of (drop (next + long) text)) (omega (arith, t.room-is)) f.row
