-- The values of a word from an index on: one more where the byte there stands for one.
use Prim.Native.Nat.{ℕ, ◌+◌, ◌≤◌, ◌<◌}
use mathlib.Core.Path.{◌≡◌, ap}
use mathlib.Core.List.{List, [], ◌∷◌}
use native.Mathlib.Numerals.{add-one}
use lib.ListN.{length, get_or, drop, drop_of_length-le}
use lib.Seq.{drop-cons}
use borrow.Author.Tests.{lt-ltb, le-ltb}
use Rattle.row_lines.specs.Words.{gap, mark_of, values_of}

module _ (word : List ℕ) (i : ℕ) (inside : i < length word) where
  pub value-here : mark_of (get_or word i 0) < gap → values_of (drop i word) ≡ mark_of (get_or word i 0) ∷ values_of (drop (i + 1) word)
  unfolding values_of
  value-here h = rw (add-one i, drop-cons word i 0 inside, lt-ltb (mark_of (get_or word i 0)) gap h)

  pub no_value-here : gap ≤ mark_of (get_or word i 0) → values_of (drop i word) ≡ values_of (drop (i + 1) word)
  unfolding values_of
  no_value-here h = rw (add-one i, drop-cons word i 0 inside, le-ltb (mark_of (get_or word i 0)) gap h)

pub no_values : (word : List ℕ) (i : ℕ) → length word ≤ i → values_of (drop i word) ≡ []
unfolding values_of
no_values word i h = ap values_of (drop_of_length-le word h)
