-- Entries below a bound: a higher bound, one entry stored, and a part of the list.
use Rattle.std.specs.Prelude.{◌≡◌, ℕ, zero, suc, ◌+◌, ◌<◌, ◌≤◌, Bool, true, false, List, [], ◌∷◌, length, take, drop, ◌==◌, slice_index, slice_set, refl}
use Rattle.std.proofs.Common.{arith, eqb-true, get_or-drop, get_or-set_same, get_or-set_other}
use Rattle.std.proofs.lemmas.Bool.{eqb-false}
use Rattle.nets.specs.Slots.{Below}

pub below_more : {b : ℕ} {xs : List ℕ} (c : ℕ) → b ≤ c → Below b xs → Below c xs
below_more c h low = record { below = λ i. omega (arith, low.below i) }

pub below_set : {b : ℕ} {xs : List ℕ} (x v : ℕ) → x < length xs → v < b → Below b xs → Below b (slice_set xs x v)
below_set {b} {xs} x v inside h low = record { below = λ y. go y (y == x) refl }
  where
    go : (y : ℕ) (same : Bool) → (y == x) ≡ same → slice_index (slice_set xs x v) y < b
    go y true e = rw (eqb-true y x e, get_or-set_same xs x v 0 inside) h
    go y false e = rw (get_or-set_other xs x y v 0 (eqb-false y x e)) (low.below y)

pub below-part : {b : ℕ} {xs : List ℕ} (from count : ℕ) → Below b xs → Below b (take count (drop from xs))
below-part {b} {xs} from count low =
    record { below = front count (drop from xs) (λ i. rw (get_or-drop from xs i 0) (low.below (from + i))) }
  where
    front : (n : ℕ) (ys : List ℕ) → ((i : ℕ) → slice_index ys i < b) → (i : ℕ) → slice_index (take n ys) i < b
    front zero ys h i = omega (arith, h 0)
    front (suc n) [] h i = h i
    front (suc n) (y ∷ ys) h zero = h 0
    front (suc n) (y ∷ ys) h (suc i) = front n ys (λ j. h (suc j)) i
