-- The lines of output rows: as long as there is room for, and one by one.
use Prim.Native.Nat.{ℕ, zero, suc, ◌+◌, ◌-◌, ◌≤◌, ◌<◌}
use mathlib.Core.Logic.{◌⊎◌}
use mathlib.Core.Path.{◌≡◌, refl, ap, ◌∙◌}
use mathlib.Core.Bool.{Bool, cond, and-false}
use mathlib.Core.List.{List, [], ◌∷◌, ◌++◌}
use native.Mathlib.Omega.{arith}
use lib.ListN.{length, take, drop, length-append, length-drop}
use lib.Seq.{length-take-le, drop-drop}
use borrow.Author.Tests.{le-leb, lt-leb, lt-ltb, le-ltb}
use Rattle.meaning.specs.Layout.{each}
use Rattle.meaning.specs.Listing.{line_feed}
use Rattle.laws.specs.Tests.{Tells, tells_true, tells_false, tells-and, leb_tells, ltb_tells}
use Rattle.list_text.specs.Pieces.{PutDown}
use Rattle.list_text.proofs.Pieces.{put-length}
use Rattle.row_lines.specs.Digits.{digit, line_text, lines_text}
use Rattle.row_lines.proofs.Putting.{Goes, goes-piece, goes_end, goes-begin}

digits_long : (row : List ℕ) → length (each digit row) ≡ length row
unfolding each
digits_long [] = refl
digits_long (v ∷ row) = ap suc (digits_long row)

pub line-long : (row : List ℕ) → length (line_text row) ≡ length row + 1
unfolding line_text
line-long row = length-append (each digit row) (line_feed ∷ []) ∙ ap (λ (n : ℕ). n + 1) (digits_long row)

module _ (outputs room : ℕ) (values : List ℕ) where
  pub lines_more : (k : ℕ) → outputs ≤ length values → outputs < room
      → lines_text (suc k) outputs room values ≡ line_text (take outputs values) ++ lines_text k outputs (room - suc outputs) (drop outputs values)
  unfolding lines_text
  lines_more k h g = rw (le-leb outputs (length values) h, lt-ltb outputs room g)

  pub lines_lack_values : (k : ℕ) → length values < outputs → lines_text k outputs room values ≡ []
  unfolding lines_text
  lines_lack_values zero h = refl
  lines_lack_values (suc k) h = rw (lt-leb outputs (length values) h)

  pub lines_lack_room : (k : ℕ) → room ≤ outputs → lines_text k outputs room values ≡ []
  unfolding lines_text
  lines_lack_room zero h = refl
  lines_lack_room (suc k) h = rw (le-ltb outputs room h, and-false)

pub lines-within : (k outputs room : ℕ) (values : List ℕ) → length (lines_text k outputs room values) ≤ room
unfolding lines_text
lines-within zero outputs room values = omega arith
lines-within (suc k) outputs room values =
    go (tells-and (leb_tells outputs (length values)) (ltb_tells outputs room)) (lines-within k outputs (room - suc outputs) (drop outputs values))
  where
    rest : List ℕ
    rest = lines_text k outputs (room - suc outputs) (drop outputs values)

    line : List ℕ
    line = line_text (take outputs values)

    go : {t : Bool} → Tells ((outputs ≤ length values) × (outputs < room)) ((length values < outputs) ⊎ (room ≤ outputs)) t
        → length rest ≤ room - suc outputs → length (cond t (line ++ rest) []) ≤ room
    go (tells_true h) short =
        let row = length-take-le outputs values h.0 in
        omega (arith, h.1, length-append line rest, line-long (take outputs values))
    go (tells_false h) short = omega arith

-- How far the lines are put.
pub record Lays (values : List ℕ) (rows outputs : ℕ) (out₀ out : List ℕ) (at from row : ℕ) : Type 0 where
  pub left : ℕ
  pub room : ℕ
  pub left_is : row + left ≡ rows
  pub room-is : at + room ≡ length out
  pub inside : from ≤ length values
  pub goes : Goes out₀ 0 (lines_text rows outputs (length out₀) values) out at (lines_text left outputs room (drop from values))

pub lays-begin : (values : List ℕ) (rows outputs : ℕ) (out : List ℕ) → Lays values rows outputs out out 0 0 0
lays-begin values rows outputs out =
    record {
      left = rows;
      room = length out;
      left_is = omega arith;
      room-is = omega arith;
      inside = omega arith;
      goes = goes-begin out 0 (lines_text rows outputs (length out) values) (omega (arith, lines-within rows outputs (length out) values));
    }

module _ {values : List ℕ} {rows outputs : ℕ} {out₀ out : List ℕ} {at from row : ℕ} (l : Lays values rows outputs out₀ out at from row) where
  ends : lines_text l.left outputs l.room (drop from values) ≡ [] → PutDown (lines_text rows outputs (length out₀) values) out₀ 0 out at
  ends none = goes_end none l.goes

  pub lays_no_values : length values - from < outputs → PutDown (lines_text rows outputs (length out₀) values) out₀ 0 out at
  lays_no_values h = ends (lines_lack_values outputs l.room (drop from values) l.left (omega (arith, length-drop from values)))

  pub lays_no_room : length out - at ≤ outputs → PutDown (lines_text rows outputs (length out₀) values) out₀ 0 out at
  lays_no_room h = ends (lines_lack_room outputs l.room (drop from values) l.left (omega (arith, l.room-is)))

  pub lays_all : rows ≤ row → PutDown (lines_text rows outputs (length out₀) values) out₀ 0 out at
  unfolding lines_text
  lays_all h = ends (let none : l.left ≡ 0 = omega (arith, l.left_is) in ap (λ (n : ℕ). lines_text n outputs l.room (drop from values)) none)

  -- The next row's line.
  pub lays_more : {out' : List ℕ} {at' : ℕ} → row < rows → outputs ≤ length values - from → outputs < length out - at
      → PutDown (line_text (take (from + outputs - from) (drop from values))) out at out' at'
      → Lays values rows outputs out₀ out' at' (from + outputs) (row + 1)
  lays_more {out'} {at'} more some space d =
      record {
        left = k;
        room = l.room - suc outputs;
        left_is = omega (arith, one_more, l.left_is);
        room-is = omega (arith, d.next, put-length d, l.room-is, line-long (take outputs (drop from values)), ap (λ (r : List ℕ). length (line_text r)) same_row, row-long);
        inside = omega (arith, l.inside);
        goes = rw (← drop-drop outputs from values) (goes-piece parts (rw same_row at d) l.goes);
      }
    where
      k : ℕ
      k = l.left - 1

      one_more : l.left ≡ suc k
      one_more = omega (arith, l.left_is)

      same_row : take (from + outputs - from) (drop from values) ≡ take outputs (drop from values)
      same_row = let e : from + outputs - from ≡ outputs = omega arith in ap (λ (n : ℕ). take n (drop from values)) e

      row-long : length (take outputs (drop from values)) ≡ outputs
      row-long = length-take-le outputs (drop from values) (omega (arith, length-drop from values))

      parts : lines_text l.left outputs l.room (drop from values)
          ≡ line_text (take outputs (drop from values)) ++ lines_text k outputs (l.room - suc outputs) (drop outputs (drop from values))
      parts =
          ap (λ (n : ℕ). lines_text n outputs l.room (drop from values)) one_more
          ∙ lines_more outputs l.room (drop from values) k (omega (arith, length-drop from values)) (omega (arith, l.room-is))
