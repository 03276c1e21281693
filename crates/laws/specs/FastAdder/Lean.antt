-- How much a carry may drive in a tree: twice as many places as nodes have their first tree at its bit, nested. In the trees of the
-- shape that grows with the step.
use Rattle.std.specs.Prelude.{ℕ, zero, suc, ◌+◌, ◌*◌, ◌-◌, ◌<◌, ◌≤◌, max, ◌≡◌, refl, Bool, true, false, cond, List, [], ◌∷◌, ltb}
use Rattle.std.proofs.Common.{ap, arith, ltb-true, ltb-false}
use Rattle.meaning.specs.FastAdder.{Tree, leaf, node, leaves, Step, over_one, over_two, grown, spine, cut, height, steps}
use Rattle.laws.specs.FastAdder.Shape.{height-least}

unfoldable pub lean : Tree → ℕ
lean leaf = 0
lean (node x y z) = max (lean x + 2) (max (lean y) (lean z))

unfoldable pub lean_steps : List Step → ℕ
lean_steps [] = 0
lean_steps (over_one x ∷ steps) = max (lean x + 2) (lean_steps steps)
lean_steps (over_two x y ∷ steps) = max (lean x + 2) (max (lean y) (lean_steps steps))

-- Steps cut from a node lean so much where each part does, and its first tree where it is reached whole.
node-cut-lean :
    (x y z : Tree) (m most : ℕ) → lean_steps (cut m x) ≤ most → (leaves x ≤ m → lean x + 2 ≤ most) → lean_steps (cut (m - leaves x) y) ≤ most
    → lean y ≤ most
    → (leaves x + leaves y ≤ m → lean_steps (cut (m - (leaves x + leaves y)) z) ≤ most)
    → lean_steps (cut m (node x y z)) ≤ most
unfolding cut lean_steps
node-cut-lean x y z m most in_x past-x in_y whole-y in_z = go (ltb m (leaves x)) refl (ltb m (leaves x + leaves y)) refl
  where
    go :
        (b : Bool) → ltb m (leaves x) ≡ b → (b' : Bool) → ltb m (leaves x + leaves y) ≡ b'
        → lean_steps
        (cond b (cut m x) (cond b' (over_one x ∷ cut (m - leaves x) y) (over_two x y ∷ cut (m - (leaves x + leaves y)) z)))
        ≤ most
    go true e b' e' = in_x
    go false e true e' = omega (arith, past-x (ltb-false m (leaves x) e))
    go false e false e' = omega (arith, past-x (ltb-false m (leaves x) e), in_z (ltb-false m (leaves x + leaves y) e'))

-- Cut steps lean no more than their tree.
cut-lean : (t : Tree) (m : ℕ) → lean_steps (cut m t) ≤ lean t
unfolding cut lean lean_steps
cut-lean leaf m = omega arith
cut-lean (node x y z) m =
    node-cut-lean x y z m (lean (node x y z))
    (omega (arith, cut-lean x m))
    (λ _. omega arith)
    (omega (arith, cut-lean y (m - leaves x)))
    (omega arith)
    (λ _. omega (arith, cut-lean z (m - (leaves x + leaves y))))

grown-lean : (u h most : ℕ) → u ≤ suc most → lean (grown u h) ≤ most
unfolding grown lean
grown-lean zero h most low = omega arith
grown-lean (suc zero) h most low = omega arith
grown-lean (suc (suc zero)) h most low = omega arith
grown-lean (suc (suc (suc u))) zero most low = omega arith
grown-lean (suc (suc (suc u))) (suc h) most low =
    omega (
      arith,
      grown-lean (suc u) (suc h) u (omega arith),
      grown-lean (suc u) h u (omega arith),
      grown-lean (suc (suc u)) h (suc u) (omega arith),
    )

spine-lean : (k h : ℕ) → lean (spine k h) ≤ 2 * (k + h)
unfolding spine lean
spine-lean k zero = omega arith
spine-lean k (suc h) =
    omega (
      arith,
      grown-lean (2 * k + 1) (suc h) (2 * k) (omega arith),
      grown-lean (2 * k + 2) h (2 * k + 1) (omega arith),
      spine-lean (suc k) h,
    )

flat : (u : ℕ) → grown u 0 ≡ leaf
unfolding grown
flat zero = refl
flat (suc zero) = refl
flat (suc (suc zero)) = refl
flat (suc (suc (suc u))) = refl

-- Where the last tree of the spine is not reached whole, no step leans on it.
spine-cut-lean : (k h m : ℕ) → m + 2 < leaves (spine k (suc h)) → lean_steps (cut m (spine k (suc h))) ≤ 2 * (k + h)
unfolding spine leaves lean lean_steps cut
spine-cut-lean k zero m short =
    let x = grown (2 * k + 1) 1 in
    rw (flat (2 * k + 2))
    (node-cut-lean x leaf leaf m (2 * (k + 0))
    (omega (arith, cut-lean x m, grown-lean (2 * k + 1) 1 (2 * k) (omega arith)))
    (λ whole. absurd (omega (arith, ap leaves (flat (2 * k + 2)))))
    (omega arith)
    (omega arith)
    (λ whole. omega arith))
spine-cut-lean k (suc h) m short =
    let x = grown (2 * k + 1) (suc (suc h)) in
    let y = grown (2 * k + 2) (suc h) in
    let lean-x = grown-lean (2 * k + 1) (suc (suc h)) (2 * k) (omega arith) in
    let lean-y = grown-lean (2 * k + 2) (suc h) (2 * k + 1) (omega arith) in
    node-cut-lean x y (spine (suc k) (suc h)) m (2 * (k + suc h))
    (omega (arith, lean-x, cut-lean x m))
    (λ _. omega (arith, lean-x))
    (omega (arith, lean-y, cut-lean y (m - leaves x)))
    (omega (arith, lean-y))
    (λ past. omega (arith, spine-cut-lean (suc k) h (m - (leaves x + leaves y)) (omega arith)))

pub steps-lean : (n : ℕ) → lean_steps (steps n) ≤ 2 * height n
unfolding steps
steps-lean n = omega (arith, cut-lean (spine 0 (height n)) n, spine-lean 0 (height n))

five_tall : leaves (spine 0 5) ≡ 71
unfolding spine grown leaves
five_tall = refl

-- At the widths that are written no step has its last tree whole but at height 4 or less: the spine of height 5 has 71 bits.
pub steps-lean-to_64 : (n : ℕ) → n ≤ 64 → lean_steps (steps n) ≤ 8
unfolding steps
steps-lean-to_64 n within = go (ltb (height n) 5) refl
  where
    go : (b : Bool) → ltb (height n) 5 ≡ b → lean_steps (cut n (spine 0 (height n))) ≤ 8
    go true e = omega (arith, steps-lean n, ltb-true (height n) 5 e)
    go false e =
        let high : height n ≡ 5 = omega (arith, ltb-false (height n) 5 e, height-least n 5 (omega (arith, five_tall))) in
        rw high (spine-cut-lean 0 4 n (omega (arith, five_tall)))
