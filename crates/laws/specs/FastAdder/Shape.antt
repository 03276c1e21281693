-- The steps of the shape go over exactly the width, and its height is the least that is high enough.
use Rattle.std.specs.Prelude.{ℕ, zero, suc, ◌+◌, ◌*◌, ◌-◌, ◌<◌, ◌≤◌, ◌≡◌, refl, Bool, true, false, cond, ◌∷◌, ltb}
use Rattle.std.proofs.Common.{ap, arith, ltb-true, ltb-false}
use Rattle.meaning.specs.FastAdder.{Tree, leaf, node, leaves, over_one, over_two, grown, spine, cut, height_from, height, steps}
use Rattle.laws.specs.FastAdder.Signals.{some-leaves, width}

pub cut-width : (t : Tree) (m : ℕ) → m < leaves t → width (cut m t) ≡ m
unfolding cut leaves width
cut-width leaf m low = omega arith
cut-width (node x y z) m low =
    go (ltb m (leaves x)) refl (ltb m (leaves x + leaves y)) refl
    (cut-width x m)
    (cut-width y (m - leaves x))
    (cut-width z (m - (leaves x + leaves y)))
  where
    go :
        (b : Bool) → ltb m (leaves x) ≡ b → (b' : Bool) → ltb m (leaves x + leaves y) ≡ b'
        → (m < leaves x → width (cut m x) ≡ m)
        → (m - leaves x < leaves y → width (cut (m - leaves x) y) ≡ m - leaves x)
        → (m - (leaves x + leaves y) < leaves z → width (cut (m - (leaves x + leaves y)) z) ≡ m - (leaves x + leaves y))
        → width
        (cond b (cut m x) (cond b' (over_one x ∷ cut (m - leaves x) y) (over_two x y ∷ cut (m - (leaves x + leaves y)) z)))
        ≡ m
    go true e b' e' in_x in_y in_z = in_x (ltb-true m (leaves x) e)
    go false e true e' in_x in_y in_z =
        let past-x = ltb-false m (leaves x) e in
        let below = ltb-true m (leaves x + leaves y) e' in
        omega (arith, in_y (omega arith))
    go false e false e' in_x in_y in_z =
        let past-y = ltb-false m (leaves x + leaves y) e' in
        omega (arith, in_z (omega arith))

-- A spine of any height has more bits than that.
pub spine_tall : (k h : ℕ) → h < leaves (spine k h)
unfolding spine leaves
spine_tall k zero = omega arith
spine_tall k (suc h) =
    omega (arith, some-leaves (grown (2 * k + 1) (suc h)), some-leaves (grown (2 * k + 2) h), spine_tall (suc k) h)

found_tall : (h count n : ℕ) → n ≤ h + count → n < leaves (spine 0 (height_from h count n))
unfolding height_from
found_tall h zero n far = omega (arith, spine_tall 0 h)
found_tall h (suc count) n far = go (ltb n (leaves (spine 0 h))) refl (found_tall (suc h) count n (omega arith))
  where
    go :
        (b : Bool) → ltb n (leaves (spine 0 h)) ≡ b → n < leaves (spine 0 (height_from (suc h) count n))
        → n < leaves (spine 0 (cond b h (height_from (suc h) count n)))
    go true e further = ltb-true n (leaves (spine 0 h)) e
    go false e further = further

found-least : (h count n c : ℕ) → h ≤ c → n < leaves (spine 0 c) → n ≤ h + count → height_from h count n ≤ c
unfolding height_from
found-least h zero n c low tall far = low
found-least h (suc count) n c low tall far =
    go (ltb n (leaves (spine 0 h))) refl (λ other. found-least (suc h) count n c other tall (omega arith))
  where
    go :
        (b : Bool) → ltb n (leaves (spine 0 h)) ≡ b → (suc h ≤ c → height_from (suc h) count n ≤ c)
        → cond b h (height_from (suc h) count n) ≤ c
    go true e further = low
    go false e further =
        let short = ltb-false n (leaves (spine 0 h)) e in
        let lower : h ≡ c → ⊥ = λ same. omega (arith, ap (λ (h : ℕ). leaves (spine 0 h)) same) in
        further (omega arith)

pub height_tall : (n : ℕ) → n < leaves (spine 0 (height n))
unfolding height
height_tall n = found_tall 0 n n (omega arith)

pub steps-width : (n : ℕ) → width (steps n) ≡ n
unfolding steps
steps-width n = cut-width (spine 0 (height n)) n (height_tall n)

pub height-least : (n c : ℕ) → n < leaves (spine 0 c) → height n ≤ c
unfolding height
height-least n c tall = found-least 0 n n c (omega arith) tall (omega arith)
