-- A list of occurrences that grows by one at its end: the nets that it drives, its numbers, and its image.
use Prim.Native.Nat.{ℕ, ◌+◌, ◌≤◌}
use mathlib.Core.Path.{◌≡◌, refl, sym, ap, ap₂, ◌∙◌}
use mathlib.Core.Bool.{true}
use mathlib.Core.List.{List, [], ◌∷◌, ◌++◌, map, append-nil, append_assoc, map-append}
use native.Mathlib.Omega.{arith}
use lib.ListN.{length, length-append}
use Rattle.meaning.specs.Syntax.{Occurrence, Module}
use Rattle.meaning.specs.Layout.{each, occurrence_numbers}
use Rattle.meaning.specs.Limits.{driven}
use Rattle.meaning.specs.Boxlist.{subset}
use Rattle.laws.specs.Lists.{each_append}
use Rattle.nets.specs.Slots.{slot_of}
use Rattle.nets.specs.Members.{subset_self, subset_append_left, subset_append_right}
use Rattle.nets.specs.SlotLaws.{slots-append}
use Rattle.image.specs.Laid.{laid, laid-after}
use Rattle.image.specs.Shapes.{length-of-resolved-occurrence, length-of-resolved-body}
use Rattle.image.specs.Resolved.{resolve_occurrence, slot_in, nets_of}

pub driven-append : (os ps : List Occurrence) → driven (os ++ ps) ≡ driven os ++ driven ps
unfolding driven
driven-append [] ps = refl
driven-append (o ∷ os) ps =
    ap (λ (l : List ℕ). o.drives ++ l) (driven-append os ps) ∙ sym (append_assoc o.drives (driven os) (driven ps))

pub driven_snoc : (os : List Occurrence) (o : Occurrence) → driven (os ++ (o ∷ [])) ≡ driven os ++ o.drives
unfolding driven
driven_snoc os o = driven-append os (o ∷ []) ∙ ap (λ (l : List ℕ). driven os ++ l) (append-nil o.drives)

numbers_snoc :
    (os : List Occurrence) (o : Occurrence)
    → each occurrence_numbers (os ++ (o ∷ [])) ≡ each occurrence_numbers os ++ occurrence_numbers o
unfolding each
numbers_snoc os o =
    each_append occurrence_numbers os (o ∷ []) ∙ ap (λ (l : List ℕ). each occurrence_numbers os ++ l) (append-nil (occurrence_numbers o))

pub length-of_snoc :
    (os : List Occurrence) (o : Occurrence)
    → length (each occurrence_numbers (os ++ (o ∷ []))) ≡ length (each occurrence_numbers os) + length (occurrence_numbers o)
length-of_snoc os o = ap length (numbers_snoc os o) ∙ length-append (each occurrence_numbers os) (occurrence_numbers o)

-- One more occurrence laid behind those that are laid.
pub laid_snoc :
    (slot refer : ℕ → ℕ) (image : List ℕ) (from : ℕ) (os : List Occurrence) (o : Occurrence) {at : ℕ}
    → at ≡ from + length (each occurrence_numbers os) → at + length (occurrence_numbers o) ≤ length image
    → laid (laid image from (each occurrence_numbers (map (resolve_occurrence slot refer) os))) at
    (occurrence_numbers (resolve_occurrence slot refer o))
    ≡ laid image from (each occurrence_numbers (map (resolve_occurrence slot refer) (os ++ (o ∷ []))))
laid_snoc slot refer image from os o {at} e fits =
    ap (λ (p : ℕ). laid (laid image from before) p piece) place
    ∙ laid-after image from before piece (omega (arith, before-long, piece-long))
    ∙ ap (laid image from)
    (sym (numbers_snoc (map resolved os) (resolved o)) ∙ ap (each occurrence_numbers) (sym (map-append resolved os (o ∷ []))))
  where
    resolved : Occurrence → Occurrence
    resolved = resolve_occurrence slot refer

    before : List ℕ
    before = each occurrence_numbers (map resolved os)

    piece : List ℕ
    piece = occurrence_numbers (resolved o)

    before-long : length before ≡ length (each occurrence_numbers os)
    before-long = length-of-resolved-body slot refer os

    piece-long : length piece ≡ length (occurrence_numbers o)
    piece-long = length-of-resolved-occurrence slot refer o

    place : at ≡ from + length before
    place = omega (arith, e, before-long)

-- The slots that an occurrence is written with are its nets' slots in the module.
pub resolved-alike :
    (refer : ℕ → ℕ) (m : Module) (nets : List ℕ) (o : Occurrence) (rest : List ℕ)
    → nets_of m ≡ nets ++ o.drives ++ rest → subset o.takes nets ≡ true
    → resolve_occurrence (λ x. slot_of x (nets ++ o.drives)) refer o ≡ resolve_occurrence (slot_in m) refer o
resolved-alike refer m nets o rest e bound =
    ap₂ (λ (ds ts : List ℕ). record { drives = ds; refers = refer o.refers; takes = ts })
    (alike o.drives (subset_append_right o.drives nets o.drives (subset_self o.drives)))
    (alike o.takes (subset_append_left o.takes nets o.drives bound))
  where
    alike : (l : List ℕ) → subset l (nets ++ o.drives) ≡ true → map (λ x. slot_of x (nets ++ o.drives)) l ≡ map (slot_in m) l
    alike l s = sym (slots-append l (nets ++ o.drives) rest s) ∙ ap (λ (ns : List ℕ). map (λ x. slot_of x ns) l) (sym e)
