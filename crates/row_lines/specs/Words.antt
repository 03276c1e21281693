-- A word of values. A digit is a value, x and X stand for 2 (unknown), z and Z for 3 (floating), as simulators write them; a low line
-- between groups stands for nothing. Any digit is taken for a value: which of them are good a call on a module says.
use Rattle.std.specs.Prelude.{ℕ, suc, ◌-◌, cond, ◌&&◌, ◌||◌, List, [], ◌∷◌, eqb, leb, ltb}

-- The mark of a byte: the value that it stands for, or one of two that are above all values.
abbrev pub gap : ℕ
gap = 10

abbrev pub other : ℕ
other = 11

-- `0` is 48 and `9` is 57; `X` is 88, `x` 120, `Z` 90, `z` 122 and `_` 95.
unfoldable pub mark_of : ℕ → ℕ
mark_of b =
    cond (leb 48 b && leb b 57) (b - 48)
    (cond (eqb b 88 || eqb b 120) 2 (cond (eqb b 90 || eqb b 122) 3 (cond (eqb b 95) gap other)))

-- The index of the first byte that does not belong in a word; the word's length where there is none.
unfoldable pub first_other : List ℕ → ℕ
first_other [] = 0
first_other (b ∷ word) = cond (eqb (mark_of b) other) 0 (suc (first_other word))

-- The values of a word, in order.
unfoldable pub values_of : List ℕ → List ℕ
values_of [] = []
values_of (b ∷ word) = cond (ltb (mark_of b) gap) (mark_of b ∷ values_of word) (values_of word)
