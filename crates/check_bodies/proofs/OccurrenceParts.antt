-- The parts of an occurrence by the places that the code computes, and the numbers of one among many.
use Prim.Native.Nat.{ℕ, suc, ◌+◌, ◌*◌, ◌≤◌, ◌<◌}
use mathlib.Core.Path.{◌≡◌, refl, subst}
use mathlib.Core.List.{List, [], ◌∷◌, ◌++◌}
use native.Mathlib.Omega.{arith}
use lib.ListN.{length, length-append}
use lib.Seq.{drop-append_seam}
use Rattle.meaning.specs.Syntax.{Occurrence}
use Rattle.meaning.specs.Layout.{each, list_numbers, occurrence_numbers}
use Rattle.laws.specs.Lists.{each_append}
use Rattle.nets.specs.Slots.{Below}
use Rattle.nets.specs.Bounds.{below-part}
use Rattle.image.specs.Stands.{Stands, stands-part, stands-front, stands-skip, stands-whole}
use Rattle.image.specs.Pieces.{OccurrenceAt, moved, length-of-occurrence, occurrence-at}

module _ {numbers : List ℕ} {at : ℕ} (o : Occurrence) (s : Stands numbers at (occurrence_numbers o)) where
  pub drives-stand : Stands numbers at (list_numbers o.drives)
  unfolding occurrence_numbers
  drives-stand = stands-front (o.refers ∷ list_numbers o.takes) s

  -- Behind as many places as it drives nets.
  pub behind-drives : {driven : ℕ} → driven ≡ length o.drives → Stands numbers (at + 1 + driven) (o.refers ∷ list_numbers o.takes)
  unfolding occurrence_numbers
  behind-drives e = moved (at + suc (length o.drives)) (omega arith) (stands-skip (list_numbers o.drives) s)

-- What bounds every entry bounds those that stand among them.
below-standing : {bound : ℕ} {l : List ℕ} {at : ℕ} {xs : List ℕ} → Stands l at xs → Below bound l → Below bound xs
below-standing {bound} {l} {at} {xs} s low = subst (Below bound) (stands-part s) (below-part at (length xs) low)

-- The numbers of an occurrence, as parts of itself.
module _ (o : Occurrence) {bound : ℕ} (low : Below bound (occurrence_numbers o)) where
  itself : OccurrenceAt (occurrence_numbers o) 0 o
  itself = occurrence-at o (stands-whole refl)

  pub drives-below : Below bound o.drives
  drives-below = below-standing (itself.drives 1 (omega arith)) low

  pub takes-below : Below bound o.takes
  takes-below = below-standing (itself.takes (3 + length o.drives) (omega arith)) low

  pub refers-below : o.refers < bound
  refers-below = omega (arith, itself.refers (1 + length o.drives) (omega arith), low.below (1 + length o.drives))

-- An occurrence among others: its numbers are below a bound where all are, and each has at least three.
pub one_below :
    (before : List Occurrence) (o : Occurrence) (rest : List Occurrence) {bound : ℕ}
    → Below bound (each occurrence_numbers (before ++ (o ∷ rest))) → Below bound (occurrence_numbers o)
unfolding each
one_below before o rest low = below-standing here low
  where
    front : List ℕ
    front = each occurrence_numbers before

    behind : List ℕ
    behind = occurrence_numbers o ++ each occurrence_numbers rest

    here : Stands (each occurrence_numbers (before ++ (o ∷ rest))) (length front) (occurrence_numbers o)
    here =
        rw (each_append occurrence_numbers before (o ∷ rest))
        (record {
          rest = each occurrence_numbers rest;
          here = drop-append_seam front behind;
          within = omega (arith, length-append front behind, length-append (occurrence_numbers o) (each occurrence_numbers rest));
        })

pub occurrences-few : (os : List Occurrence) → 3 * length os ≤ length (each occurrence_numbers os)
unfolding each
occurrences-few [] = omega arith
occurrences-few (o ∷ os) = simp (length-append, length-of-occurrence) (omega (arith, occurrences-few os))
