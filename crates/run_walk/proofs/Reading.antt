-- A walk over a list of slots, one after the other: what is read so far, and what is left of the slots, make up the whole.
use Prim.Native.Nat.{ℕ, ◌+◌, ◌≤◌, ◌<◌}
use mathlib.Core.Path.{◌≡◌, sym, ap, ◌∙◌}
use mathlib.Core.List.{List, [], ◌∷◌}
use native.Mathlib.Omega.{arith}
use native.Mathlib.Nat.{zero-add}
use lib.ListN.{length, get_or}
use Rattle.image.specs.Slots.{Readable, values_at}
use Rattle.image.specs.Reading.{values-here, values-end}

-- What remains to be done with those from place i on is what was to be done with all of them.
pub record Going
    {A B : Type 0} (none : A) (image : List ℕ) (from to : ℕ) (scratch : List A) (i : ℕ) (rest whole : List A → B) : Type 0 where
  pub after : from ≤ i
  pub until : i ≤ to
  pub same : rest (values_at none image i to 0 scratch) ≡ whole (values_at none image from to 0 scratch)

pub going_start :
    {A B : Type 0} (none : A) (image : List ℕ) (from to : ℕ) (scratch : List A) {rest whole : List A → B}
    → from ≤ to
    → ((xs : List A) → rest xs ≡ whole xs)
    → Going none image from to scratch from rest whole
going_start none image from to scratch ordered e =
    record { after = omega arith; until = ordered; same = e (values_at none image from to 0 scratch) }

module _ {A B : Type 0} {none : A} {image : List ℕ} {from to : ℕ} {scratch : List A} {i : ℕ} {rest whole : List A → B} where
  pub going_more :
      Going none image from to scratch i rest whole
      → i < to
      → to ≤ length image
      → {rest' : List A → B}
      → ((xs : List A) → rest (get_or scratch (get_or image i 0) none ∷ xs) ≡ rest' xs)
      → Going none image from to scratch (i + 1) rest' whole
  going_more g more inside e =
      record {
        after = omega arith;
        until = omega arith;
        same =
            sym (e (values_at none image (i + 1) to 0 scratch))
            ∙ ap rest (sym (rw (zero-add (get_or image i 0)) at (values-here none image i to 0 scratch more inside)))
            ∙ g.same;
      }

  -- The slot whose turn it is.
  pub going-slot :
      Going none image from to scratch i rest whole
      → Readable image from to 0 (length scratch)
      → i < to
      → {slot : ℕ}
      → slot ≡ get_or image i 0
      → slot < length scratch
  going-slot g able more e = omega (arith, able.slots i g.after more)

  pub going-all : Going none image from to scratch i rest whole → to ≤ i → rest [] ≡ whole (values_at none image from to 0 scratch)
  going-all g h = ap rest (sym (values-end none image i to 0 scratch (omega arith))) ∙ g.same
