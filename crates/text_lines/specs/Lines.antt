-- Lines of a text, as a designer's editor counts them. A line ends with a line feed, or with a carriage return that has no line feed
-- behind it; so a carriage return and a line feed end one line.
use Rattle.std.specs.Prelude.{ℕ, zero, suc, ◌+◌, ◌-◌, ◌≤◌, min, ◌≡◌, Bool, cond, not, ◌&&◌, ◌||◌, List, [], ◌∷◌, eqb, ltb, length, get_or, take, drop}
use Rattle.text_lines.specs.declared.Line.{Line}
use Rattle.text_lines.specs.declared.Shown.{Shown}

-- Whether a line ends with the byte at a place.
unfoldable pub ends_line : List ℕ → ℕ → Bool
ends_line text i = eqb (get_or text i 0) 10 || eqb (get_or text i 0) 13 && not (eqb (get_or text (i + 1) 0) 10)

-- How many lines end in front of a place.
unfoldable pub lines_above : List ℕ → ℕ → ℕ
lines_above text zero = 0
lines_above text (suc i) = cond (ends_line text i) (suc (lines_above text i)) (lines_above text i)

-- How many bytes of its line stand in front of a place.
unfoldable pub bytes_left : List ℕ → ℕ → ℕ
bytes_left text zero = 0
bytes_left text (suc i) = cond (ends_line text i) 0 (suc (bytes_left text i))

-- How many bytes of a line a text begins with: those in front of its first line feed or carriage return.
unfoldable pub rest_of_line : List ℕ → ℕ
rest_of_line [] = 0
rest_of_line (b ∷ text) = cond (eqb b 10 || eqb b 13) 0 (suc (rest_of_line text))

-- The line of a place in the text, or of its end.
pub record LineAt (text : List ℕ) (place : ℕ) (r : Line) : Type 0 where
  pub above : r.above ≡ lines_above text place
  pub left : r.left ≡ bytes_left text place
  pub start : r.start + r.left ≡ place
  pub end : r.end ≡ place + rest_of_line (drop place text)
  pub inside : r.end ≤ length text

pub record LineOf (text : List ℕ) (place : ℕ) (r : Line) : Type 0 where
  pub there : LineAt text (min (length text) place) r

-- How much of a line is shown left of a place: all of it, or 40 bytes where there are more than 60.
abbrev pub indent_of : (left : ℕ) → ℕ
indent_of left = cond (ltb 60 left) 40 left

-- What is shown of the line of a place: at most 72 bytes of it.
abbrev pub excerpt_of : List ℕ → (place : ℕ) → List ℕ
excerpt_of text place =
    let indent = indent_of (bytes_left text place) in
    take (min 72 (indent + rest_of_line (drop place text))) (drop (place - indent) text)

pub record Shows (line : Line) (r : Shown) : Type 0 where
  pub indent : r.indent ≡ indent_of line.left
  pub from : r.from + r.indent ≡ line.start + line.left
  pub to : r.to ≡ r.from + min 72 (line.end - r.from)
  pub inside : r.to ≤ line.end
