-- Adding at the argument places of an occurrence, one after the other: what is added and what the places ahead add are what all of them
-- add.
use Prim.Native.Nat.{ℕ, suc, ◌+◌, ◌-◌, ◌≤◌, ◌<◌, ◌^◌}
use mathlib.Core.Path.{◌≡◌, refl, ◌∙◌}
use mathlib.Core.Bool.{Bool, true, false, cond}
use mathlib.Core.List.{List, ◌∷◌}
use native.Mathlib.Omega.{arith}
use native.Mathlib.Numerals.{add-one}
use borrow.Author.Tests.{eq-eqb}
use lib.ListN.{length, get_or, drop, set, length-set, length-drop, length-replicate, get_or-replicate}
use lib.Seq.{slice, slice_empty, slice-cons, drop-cons, drop-set-lt, get_or-take, get_or-drop, length-take-le}
use Rattle.meaning.specs.Loads.{places_load}
use Rattle.load_steps.specs.Steps.{place_loads, Placed, LoadsAdded}
use Rattle.image.specs.Entries.{entry_more}

-- What so many places add, one by one.
module _ (first count : ℕ) (loads : List ℕ) where
  loads-long :
      (inside : Bool) → first + cond inside count 0 ≤ length loads → length (place_loads inside first count loads) ≡ count
  loads-long true given = length-take-le count (drop first loads) (omega (arith, length-drop first loads))
  loads-long false given = length-replicate count 1

  load_at :
      (inside : Bool) (i : ℕ)
      → i < count
      → get_or (place_loads inside first count loads) i 0 ≡ cond inside (get_or loads (first + i) 0) 1
  load_at true i less = get_or-take count (drop first loads) i 0 less ∙ get_or-drop first loads i 0
  load_at false i less = get_or-replicate {A = ℕ} count i 1 0 less

-- One entry made larger, at the net of the first place.
place-more :
    (scratch : List ℕ) (slot load net : ℕ) (takes loads : List ℕ)
    → slot < length scratch
    → get_or (set scratch slot (get_or scratch slot 0 + load)) net 0 + places_load net takes loads
    ≡ get_or scratch net 0 + places_load net (slot ∷ takes) (load ∷ loads)
unfolding places_load
place-more scratch slot load net takes loads inside = omega (arith, entry_more scratch slot load net inside)

module _
    {image : List ℕ} {from to : ℕ} {inside : Bool} {first : ℕ} {loads before : List ℕ}
    (placed : Placed image from to inside first loads before) where
  -- What all places add.
  abbrev adds : List ℕ
  adds = place_loads inside first (to - from) loads

  pub record Placing (i : ℕ) (scratch : List ℕ) : Type 0 where
    pub low : from ≤ i
    pub high : i ≤ to
    pub long : length scratch ≡ length before
    pub behind : drop placed.frame scratch ≡ drop placed.frame before
    pub sums :
        (net : ℕ)
        → net < placed.frame
        → get_or scratch net 0 + places_load net (slice i to image) (drop (i - from) adds)
        ≡ get_or before net 0 + places_load net (slice from to image) adds

  pub none-placed : Placing from before
  none-placed =
      let first : from - from ≡ 0 = omega arith in
      record {
        low = omega arith;
        high = placed.readable.ordered;
        long = refl;
        behind = refl;
        sums = λ net less. rw first;
      }

  -- The place whose turn it is: its net is in the frame.
  module _ {i : ℕ} {scratch : List ℕ} (p : Placing i scratch) (less : i < to) {slot : ℕ} (there : slot ≡ get_or image i 0) where
    in_frame : slot < placed.frame
    in_frame = omega (arith, placed.readable.slots i p.low less)

    pub slot-inside : slot < length scratch
    slot-inside = omega (arith, in_frame, placed.room, p.long)

    module _ {load : ℕ} (is : load ≡ cond inside (get_or loads (first + (i - from)) 0) 1) where
      here : slice i to image ≡ slot ∷ slice (i + 1) to image
      here = slice-cons i to image 0 less placed.readable.inside ∙ rw (there, add-one i)

      ahead : drop (i - from) adds ≡ load ∷ drop (i + 1 - from) adds
      ahead =
          let low = p.low in
          let next : i + 1 - from ≡ suc (i - from) = omega arith in
          drop-cons adds (i - from) 0 (omega (arith, loads-long first (to - from) loads inside placed.given))
          ∙ rw (next, load_at first (to - from) loads inside (i - from) (omega arith), is)

      -- What a net has and what the places from here on add.
      split :
          (net : ℕ)
          → net < placed.frame
          → get_or scratch net 0 + places_load net (slot ∷ slice (i + 1) to image) (load ∷ drop (i + 1 - from) adds)
          ≡ get_or before net 0 + places_load net (slice from to image) adds
      split net inside_frame = rw (here, ahead) at (p.sums net inside_frame)

      pub place-fits : get_or scratch slot 0 + load < 2 ^ 32
      unfolding places_load
      place-fits = omega (arith, rw (eq-eqb slot slot refl) at (split slot in_frame), placed.fits slot in_frame)

      pub more-placed : Placing (i + 1) (set scratch slot (get_or scratch slot 0 + load))
      more-placed =
          record {
            low = omega (arith, p.low);
            high = omega arith;
            long = length-set scratch slot (get_or scratch slot 0 + load) ∙ p.long;
            behind = drop-set-lt placed.frame scratch slot (get_or scratch slot 0 + load) in_frame ∙ p.behind;
            sums = λ net inside_frame.
                place-more scratch slot load net (slice (i + 1) to image) (drop (i + 1 - from) adds) slot-inside
                ∙ split net inside_frame;
          }

  pub all_placed : {i : ℕ} {scratch : List ℕ} → to ≤ i → Placing i scratch → LoadsAdded image from to inside first loads placed.frame before scratch
  unfolding places_load
  all_placed {i} {scratch} over p =
      let last : i ≡ to = omega (arith, p.high) in
      record {
        added = λ net inside_frame. omega (arith, rw (last, slice_empty to image) at (p.sums net inside_frame));
        behind = p.behind;
      }
