-- A number is at most 16,383: with that ceiling every number reads as a count.
use Prim.Native.Nat.{ℕ}
use mathlib.Core.Path.{◌≡◌, refl}
use mathlib.Core.Bool.{cond}
use mathlib.Core.List.{List}
use borrow.Author.Tests.{le-leb}
use lib.Dec.{leb}
use lib.ListN.{take, drop, take-append-drop}
use Rattle.meaning.specs.Ceilings.{Bytes, most_number}
use Rattle.meaning.specs.Reading.{Step, got, refused, onward, read_number, read_count}
use Rattle.laws.specs.Lists.{all-behind}
use Rattle.laws.specs.Exactness.{number-exact}

pub count-largest : {bytes : List ℕ} → Bytes bytes → (p : ℕ)
    → read_count most_number p (drop p bytes) ≡ read_number p (drop p bytes)
unfolding read_count
count-largest {bytes} h p = at (read_number p (drop p bytes)) refl
  where
    behind : Bytes (drop p bytes)
    behind = all-behind (take p bytes) (rw (take-append-drop p bytes) h)

    at : (s : Step ℕ) → read_number p (drop p bytes) ≡ s
        → onward (λ v q rest. cond (leb v most_number) (got v q rest) (refused 4 p)) s ≡ s
    at (got v q rest) is = rw (le-leb v most_number (number-exact.took p (drop p bytes) behind v q rest is).good)
    at (refused number q) is = refl
