-- Reading values at a list of slots in the image, one after the other; and where the list stands as a part of a file, reading at it is
-- reading at that part's slots.
use Rattle.std.specs.Prelude.{ℕ, zero, suc, ◌+◌, ◌-◌, ◌≤◌, ◌<◌, ◌≡◌, refl, List, [], ◌∷◌, length, get_or, take, drop}
use Rattle.std.proofs.Common.{sym, ap, ap₂, ◌∙◌, arith, add-one, take-add, drop_at, get_or-drop, get_or-take, length-take-le}
use Rattle.std.proofs.Math.ListN.{get_or-append}
use Rattle.std.proofs.Math.Seq.{slice, slice-cons, slice_empty, length-slice}
use Rattle.image.specs.Stands.{Stands, stands-part}
use Rattle.image.specs.Frames.{read_slots, Filled}
use Rattle.image.specs.FrameLengths.{length-of-read_slots}
use Rattle.image.specs.Slots.{Readable, values_at}

-- The next value, and those behind it.
pub values-here :
    {A : Type 0} (none : A) (image : List ℕ) (i to source : ℕ) (scratch : List A)
    → i < to
    → to ≤ length image
    → values_at none image i to source scratch ≡ get_or scratch (source + get_or image i 0) none ∷ values_at none image (i + 1) to source scratch
unfolding read_slots
values-here {A} none image i to source scratch more inside =
    rw (add-one i, slice-cons i to image 0 more inside)
    (ap (λ (x : A). x ∷ values_at none image (suc i) to source scratch) (get_or-drop source scratch (get_or image i 0) none))

-- At the end there is none.
pub values-end : {A : Type 0} (none : A) (image : List ℕ) (i to source : ℕ) (scratch : List A) → i ≡ to → values_at none image i to source scratch ≡ []
unfolding read_slots
values-end none image i to source scratch e = rw (e, slice_empty to image)

pub length-of-values :
    {A : Type 0} (none : A) (image : List ℕ) (from to source : ℕ) (scratch : List A)
    → to ≤ length image
    → length (values_at none image from to source scratch) ≡ to - from
length-of-values none image from to source scratch inside =
    length-of-read_slots none (drop source scratch) (slice from to image) ∙ length-slice from to image inside

-- The value at the i-th slot.
get_or-read_slots :
    {A : Type 0} (none : A) (frame : List A) (slots : List ℕ) (i : ℕ) → i < length slots
    → get_or (read_slots none frame slots) i none ≡ get_or frame (get_or slots i 0) none
unfolding read_slots
get_or-read_slots none frame [] i h = absurd (omega arith)
get_or-read_slots none frame (s ∷ slots) zero h = refl
get_or-read_slots none frame (s ∷ slots) (suc i) h = get_or-read_slots none frame slots i (omega arith)

pub value-at :
    {A : Type 0} (none : A) (image : List ℕ) (from to : ℕ) (scratch : List A) (i : ℕ)
    → i < to - from
    → to ≤ length image
    → get_or (values_at none image from to 0 scratch) i none ≡ get_or scratch (get_or image (from + i) 0) none
value-at none image from to scratch i h inside =
    get_or-read_slots none scratch (slice from to image) i (omega (arith, length-slice from to image inside))
    ∙ ap (λ (slot : ℕ). get_or scratch slot none) (get_or-drop from (take to image) i 0 ∙ get_or-take to image (from + i) 0 (omega arith))

-- Slots that have values read the same in the frame so far.
pub read-front : {A : Type 0} (none : A) (frame : List A) {filled : ℕ} (slots : List ℕ) → Filled filled slots
    → read_slots none (take filled frame) slots ≡ read_slots none frame slots
unfolding read_slots
read-front none frame [] slots = refl
read-front none frame {filled} (s ∷ ss) slots =
    ap₂ ◌∷◌ (get_or-take filled frame s none (slots.slot 0 (omega arith)))
    (read-front none frame ss (record { slot = λ i h. slots.slot (suc i) (omega arith) }))

-- A list that stands in the image, as the slots from a place to another.
module _ {im xs : List ℕ} (at : ℕ) {to : ℕ} (s : Stands im at xs) (e : to ≡ at + length xs) where
  pub slice_stands : slice at to im ≡ xs
  slice_stands =
      ap (λ (n : ℕ). drop at (take n im)) e
      ∙ ap (drop at) (take-add at (length xs) im)
      ∙ drop_at (take at im) (take (length xs) (drop at im)) at (length-take-le at im (omega (arith, s.within)))
      ∙ stands-part s

  pub values-stand : {A : Type 0} (none : A) (source : ℕ) (scratch : List A) → values_at none im at to source scratch ≡ read_slots none (drop source scratch) xs
  values-stand none source scratch = ap (read_slots none (drop source scratch)) slice_stands

  entry-stands : (i : ℕ) → at ≤ i → i < to → get_or im i 0 ≡ get_or xs (i - at) 0
  entry-stands i after before =
      let there : at + (i - at) ≡ i = omega arith in
      sym (get_or-drop at im (i - at) 0 ∙ ap (λ (j : ℕ). get_or im j 0) there)
      ∙ ap (λ (l : List ℕ). get_or l (i - at) 0) s.here
      ∙ get_or-append xs s.rest 0 (i - at) (omega (arith, e))

  -- Slots that have values in a part of scratch from `source` on can be read there.
  pub readable-stands :
      (source size : ℕ) {filled : ℕ} → Filled filled xs → source + filled ≤ size → Readable im at to source size
  readable-stands source size slots within =
      record {
        ordered = omega arith;
        inside = omega (arith, s.within);
        slots = λ i after before. omega (arith, entry-stands i after before, slots.slot (i - at) (omega (arith, e)));
      }
