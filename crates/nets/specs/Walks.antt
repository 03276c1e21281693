-- A list walked from its front: what holds from a place on is what holds of the entry there, and from the next place on. At the
-- list's end nothing is left.
use Rattle.std.specs.Prelude.{◌≡◌, ℕ, ◌+◌, ◌<◌, ◌≤◌, true, false, not, ◌&&◌, ◌||◌, List, [], ◌∷◌, ◌++◌, length, take, drop, ◌==◌, slice_index}
use Rattle.std.proofs.Common.{add-one, drop_of_length-le, take-suc, drop-cons}
use Rattle.std.proofs.Math.Path.{ap}
use Rattle.meaning.specs.Boxlist.{member, disjoint, duplicates, subset}

module _ (l : List ℕ) (i : ℕ) (h : i < length l) where
  pub from-here : drop i l ≡ slice_index l i ∷ drop (i + 1) l
  from-here = rw (drop-cons l i 0 h, add-one i)

  pub up_to-here : take (i + 1) l ≡ take i l ++ (slice_index l i ∷ [])
  up_to-here = rw (add-one i, take-suc l i 0 h)

  pub member-here : (x : ℕ) → member x (drop i l) ≡ (x == slice_index l i || member x (drop (i + 1) l))
  unfolding member
  member-here x = ap (member x) from-here

  pub duplicates-here : duplicates (drop i l) ≡ (member (slice_index l i) (drop (i + 1) l) || duplicates (drop (i + 1) l))
  unfolding duplicates
  duplicates-here = ap duplicates from-here

  pub disjoint-here : (ns : List ℕ) → disjoint (drop i l) ns ≡ (not (member (slice_index l i) ns) && disjoint (drop (i + 1) l) ns)
  unfolding disjoint
  disjoint-here ns = rw from-here

  pub subset-here : (ns : List ℕ) → subset (drop i l) ns ≡ (member (slice_index l i) ns && subset (drop (i + 1) l) ns)
  unfolding subset
  subset-here ns = rw from-here

module _ (l : List ℕ) (i : ℕ) (h : length l ≤ i) where
  pub member-end : (x : ℕ) → member x (drop i l) ≡ false
  unfolding member
  member-end x = ap (member x) (drop_of_length-le l h)

  pub duplicates-end : duplicates (drop i l) ≡ false
  unfolding duplicates
  duplicates-end = ap duplicates (drop_of_length-le l h)

  pub disjoint-end : (ns : List ℕ) → disjoint (drop i l) ns ≡ true
  unfolding disjoint
  disjoint-end ns = rw (drop_of_length-le l h)

  pub subset-end : (ns : List ℕ) → subset (drop i l) ns ≡ true
  unfolding subset
  subset-end ns = rw (drop_of_length-le l h)
