-- The walks over a text: to a place, counting lines, and to the end of a line.
use Prim.Native.Nat.{ℕ, suc, ◌+◌, ◌-◌, ◌≤◌, ◌<◌, min}
use native.Mathlib.Omega.{arith}
use native.Mathlib.Numerals.{add-one}
use mathlib.Core.Path.{◌≡◌, refl, sym, ◌∙◌, ap}
use mathlib.Core.Bool.{Bool, true, false, cond, not, ◌||◌}
use mathlib.Core.List.{List, [], ◌∷◌}
use lib.Dec.{eqb, ltb}
use lib.ListN.{length, get_or, take, drop, drop_of_length-le, get_or-eq_default, length-drop}
use lib.Seq.{drop-cons}
use borrow.Author.Tests.{eq-eqb, ne_eqb, ltb-true}
use Rattle.text_lines.specs.Lines.{ends_line, lines_above, bytes_left, rest_of_line, indent_of, excerpt_of, LineAt, LineOf, Shows}
use Rattle.text_lines.specs.declared.Line.{Line}
use Rattle.text_lines.specs.declared.Shown.{Shown}

-- Which byte ends a line.
module _ (text : List ℕ) (i : ℕ) where
  pub feed-ends : get_or text i 0 ≡ 10 → true ≡ ends_line text i
  unfolding ends_line
  feed-ends e = rw (eq-eqb (get_or text i 0) 10 e)

  pub other_not : (get_or text i 0 ≡ 10 → ⊥) → (get_or text i 0 ≡ 13 → ⊥) → false ≡ ends_line text i
  unfolding ends_line
  other_not n m = rw (ne_eqb (get_or text i 0) 10 n, ne_eqb (get_or text i 0) 13 m)

  pub return_next : get_or text i 0 ≡ 13 → not (eqb (get_or text (i + 1) 0) 10) ≡ ends_line text i
  unfolding ends_line
  return_next e = rw e

-- What the loop to a place has counted.
pub record Counted (text : List ℕ) (i above left : ℕ) : Type 0 where
  pub lines : above ≡ lines_above text i
  pub bytes : left ≡ bytes_left text i
  pub within : left ≤ i
  pub fewer : above ≤ i

pub counted_none : (text : List ℕ) → Counted text 0 0 0
unfolding lines_above bytes_left
counted_none text = record { lines = refl; bytes = refl; within = omega arith; fewer = omega arith }

pub counted-end : (text : List ℕ) (i above left : ℕ) → ends_line text i ≡ true → Counted text i above left → Counted text (i + 1) (above + 1) 0
unfolding lines_above bytes_left
counted-end text i above left e c =
    record {
      lines = rw (add-one i, e, add-one above) (ap suc c.lines);
      bytes = rw (add-one i, e);
      within = omega arith;
      fewer = omega (arith, c.fewer);
    }

pub counted-on : (text : List ℕ) (i above left : ℕ) → ends_line text i ≡ false → Counted text i above left → Counted text (i + 1) above (left + 1)
unfolding lines_above bytes_left
counted-on text i above left e c =
    record {
      lines = rw (add-one i, e) c.lines;
      bytes = rw (add-one i, e, add-one left) (ap suc c.bytes);
      within = omega (arith, c.within);
      fewer = omega (arith, c.fewer);
    }

-- A carriage return at the very end.
pub return_last : (text : List ℕ) (i : ℕ) → get_or text i 0 ≡ 13 → length text ≤ i + 1 → true ≡ ends_line text i
return_last text i e l =
    let none : get_or text (i + 1) 0 ≡ 0 = get_or-eq_default text 0 l in
    ap (λ b. not (eqb b 10)) (sym none) ∙ return_next text i e

-- The walk to the end of a line.
pub record Ahead (text : List ℕ) (from i : ℕ) : Type 0 where
  pub few : i ≤ length text
  pub is : from + rest_of_line (drop from text) ≡ i + rest_of_line (drop i text)

module _ (text : List ℕ) (from i : ℕ) (a : Ahead text from i) where
  pub ahead-feed : i < length text → get_or text i 0 ≡ 10 → i ≡ from + rest_of_line (drop from text)
  unfolding rest_of_line
  ahead-feed l e =
      let none : rest_of_line (drop i text) ≡ 0 = rw (drop-cons text i 0 l, eq-eqb (get_or text i 0) 10 e) in
      omega (arith, a.is)

  pub ahead_return : i < length text → (get_or text i 0 ≡ 10 → ⊥) → get_or text i 0 ≡ 13 → i ≡ from + rest_of_line (drop from text)
  unfolding rest_of_line
  ahead_return l n e =
      let none : rest_of_line (drop i text) ≡ 0 = rw (drop-cons text i 0 l, ne_eqb (get_or text i 0) 10 n, eq-eqb (get_or text i 0) 13 e) in
      omega (arith, a.is)

  pub ahead-next : i < length text → (get_or text i 0 ≡ 10 → ⊥) → (get_or text i 0 ≡ 13 → ⊥) → Ahead text from (i + 1)
  unfolding rest_of_line
  ahead-next l n m =
      let one : rest_of_line (drop i text) ≡ suc (rest_of_line (drop (i + 1) text)) =
      rw (add-one i, drop-cons text i 0 l, ne_eqb (get_or text i 0) 10 n, ne_eqb (get_or text i 0) 13 m) in
      record { few = omega arith; is = omega (arith, a.is) }

  pub ahead-end : length text ≤ i → i ≡ from + rest_of_line (drop from text)
  unfolding rest_of_line
  ahead-end l =
      let none : rest_of_line (drop i text) ≡ 0 = rw (drop_of_length-le text l) in
      omega (arith, a.is)

-- What is shown left of the place is no more than stands there.
pub indent-within : (left : ℕ) → indent_of left ≤ left
indent-within left = go (ltb 60 left) refl
  where
    go : (t : Bool) → ltb 60 left ≡ t → cond t 40 left ≤ left
    go true e = omega (arith, ltb-true 60 left e)
    go false e = omega arith

rest-within : (text : List ℕ) → rest_of_line text ≤ length text
unfolding rest_of_line
rest-within [] = omega arith
rest-within (b ∷ text) = go (eqb b 10 || eqb b 13) (rest-within text)
  where
    go : (t : Bool) → rest_of_line text ≤ length text → cond t 0 (suc (rest_of_line text)) ≤ suc (length text)
    go true h = omega arith
    go false h = omega arith

-- The line once the loop has come to the place.
pub line-there : (text : List ℕ) (place stop i above left end : ℕ) → stop ≡ min (length text) place → i ≡ stop → Counted text i above left
    → end ≡ stop + rest_of_line (drop stop text)
    → LineOf text place (record { above = above; left = left; start = stop - left; end = end })
line-there text place stop i above left end s e c rest =
    record {
      there =
          rw (← s)
          (record {
            above = rw (← e) c.lines;
            left = rw (← e) c.bytes;
            start = omega (arith, c.within);
            end = rest;
            inside = omega (arith, rest-within (drop stop text), length-drop stop text);
          });
    }

-- What is chosen of a line.
pub shows : (line : Line) (from to indent : ℕ) → indent ≡ indent_of line.left → from ≡ line.start + (line.left - indent)
    → line.start + line.left ≤ line.end → to ≡ from + min 72 (line.end - from) → Shows line (record { from = from; to = to; indent = indent })
shows line from to indent i f h t =
    let few = indent-within line.left in
    record { indent = i; from = omega arith; to = t; inside = omega arith }

-- The excerpt that stands there.
pub excerpt_there : (text : List ℕ) (place : ℕ) (line : Line) (r : Shown) → LineAt text place line → Shows line r
    → take (r.to - r.from) (drop r.from text) ≡ excerpt_of text place
excerpt_there text place line r l s =
    let indent : r.indent ≡ indent_of (bytes_left text place) = s.indent ∙ ap indent_of l.left in
    let few : indent_of (bytes_left text place) ≤ bytes_left text place = indent-within (bytes_left text place) in
    let from : r.from ≡ place - indent_of (bytes_left text place) = omega (arith, s.from, l.start, l.left) in
    let long : r.to - r.from ≡ min 72 (indent_of (bytes_left text place) + rest_of_line (drop place text)) =
    omega (arith, s.to, s.from, l.start, l.end, l.left) in
    rw (long, from)
