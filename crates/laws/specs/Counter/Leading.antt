-- Leading zeros of bits of which some are unknown. They are known as soon as the highest 1 is known and every bit above it,
-- whatever lies below, or if all bits are known to be 0.
use Rattle.std.specs.Prelude.{ℕ, zero, suc, ◌+◌, ◌≡◌, refl, Bool, true, false, length, replicate}
use Rattle.std.proofs.Common.{ap, add-zero, zero-add, add-suc, suc-add, arith, length-append}
use mathlib.Core.List.{List, [], ◌∷◌, ◌++◌, map, map-append, reverse, reverse_aux, reverse_aux-eq, reverse-reverse}
use Rattle.std.proofs.lemmas.List.{length-replicate}
use Rattle.meaning.specs.Values.{Val, known, un}
use Rattle.meaning.specs.Counter.{zeros_first, leading_zeros}

-- The leading zeros of values, low first, where they are known.
pub data Leading : List Val → ℕ → Type 0 where
  one : (below : List Val) (zeros : ℕ) → Leading (below ++ (known true ∷ replicate zeros (known false))) zeros
  none : (zeros : ℕ) → Leading (replicate zeros (known false)) zeros

-- What is known of the highest 1: how many zeros stand above it; or that there is none; or neither.
pub data Lead : Type 0 where
  found : ℕ → Lead
  empty : Lead
  unsure : Lead

-- A value below so many others.
abbrev pub under : Val → ℕ → Lead → Lead
under v n (found zeros) = found zeros
under v n unsure = unsure
under (known true) n empty = found n
under (known false) n empty = empty
under un n empty = unsure

unfoldable pub lead : List Val → Lead
lead [] = empty
lead (v ∷ vs) = under v (length vs) (lead vs)

-- Values below so many others.
abbrev pub over : ℕ → Lead → Lead → Lead
over n low (found zeros) = found zeros
over n low unsure = unsure
over n (found zeros) empty = found (n + zeros)
over n unsure empty = unsure
over n empty empty = empty

pub lead-append : (low high : List Val) → lead (low ++ high) ≡ over (length high) (lead low) (lead high)
unfolding lead
lead-append [] high = go (lead high)
  where
    go : (l : Lead) → l ≡ over (length high) empty l
    go (found _) = refl
    go empty = refl
    go unsure = refl
lead-append (v ∷ low) high = rw (lead-append low high, length-append low high) (go v (lead low) (lead high))
  where
    go : (v : Val) (l h : Lead)
        → under v (length low + length high) (over (length high) l h) ≡ over (length high) (under v (length low) l) h
    go v l (found _) = refl
    go v l unsure = refl
    go v (found _) empty = refl
    go v unsure empty = refl
    go (known true) empty empty = ap found (omega arith)
    go (known false) empty empty = refl
    go un empty empty = refl

-- Of known bits they are always known.
pub map-known-zeros : (n : ℕ) → map known (replicate n false) ≡ replicate n (known false)
map-known-zeros zero = refl
map-known-zeros (suc n) = rw (map-known-zeros n)

high-first : (bs : List Bool) (n : ℕ) → Leading (map known (reverse_aux bs (replicate n false))) (n + zeros_first bs)
unfolding zeros_first
high-first [] n = rw (map-known-zeros n, add-zero n) (none n)
high-first (true ∷ bs) n =
    rw (reverse_aux-eq bs (true ∷ replicate n false), map-append known (reverse bs), map-known-zeros n, add-zero n)
    (one (map known (reverse bs)) n)
high-first (false ∷ bs) n = rw (add-suc n (zeros_first bs), ← suc-add n (zeros_first bs)) (high-first bs (suc n))

pub leading-known : (bs : List Bool) → Leading (map known bs) (leading_zeros bs)
unfolding leading_zeros
leading-known bs = rw (reverse-reverse bs, zero-add) at (high-first (reverse bs) 0)

pub lead-zeros : (n : ℕ) → lead (replicate n (known false)) ≡ empty
unfolding lead
lead-zeros zero = refl
lead-zeros (suc n) = rw (lead-zeros n)

pub lead-one : (below : List Val) (n : ℕ) → lead (below ++ (known true ∷ replicate n (known false))) ≡ found n
unfolding lead
lead-one below n = rw (lead-append below (known true ∷ replicate n (known false)), lead-zeros n, length-replicate n (known false))
