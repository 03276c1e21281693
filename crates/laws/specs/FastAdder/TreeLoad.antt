-- How much any net drives in the look-ahead, by one induction over trees: a carry what its tree leans, a P or a G at most 4.
use Rattle.std.specs.Prelude.{ℕ, zero, suc, ◌+◌, ◌*◌, ◌≤◌, max, ◌≡◌}
use Rattle.std.proofs.Math.Path.{refl}
use mathlib.Core.List.{List, [], ◌∷◌}
use Rattle.std.proofs.Common.{mul-add, add-mul, mul-zero, mul-one, mul-le-mul_right, arith}
use Rattle.meaning.specs.Syntax.{Occurrence}
use Rattle.meaning.specs.FastAdder.{Tree, leaf, node, leaves, Step, over_one, over_two, p_net, g_net, behind_one, behind_two, passes, makes, ahead, chain}
use Rattle.laws.specs.FastAdder.Signals.{some-leaves, width}
use Rattle.laws.specs.FastAdder.Counting.{total, total-append}
use Rattle.laws.specs.FastAdder.Hits.{hits, hits_in, hits_in-append, hits-first}
use Rattle.laws.specs.FastAdder.OneNet.{its, within, within_steps, rows, steps-rows, carries_in_three, one_of_all}
use Rattle.laws.specs.FastAdder.Lean.{lean, lean_steps}

-- Shares of a sum, each at most so many times its part, the first with twice a part of its own.
two-shares : (most a b first h k : ℕ) → a + 2 ≤ most → b ≤ most → first ≤ h → a * h + 2 * first + b * k ≤ most * (h + k)
two-shares most a b first h k a-by b-by low =
    omega (arith, add-mul a 2 h, mul-add most h k, mul-le-mul_right h a-by, mul-le-mul_right k b-by)

three-shares :
    (most a b c first h k l : ℕ) → a + 2 ≤ most → b ≤ most → c ≤ most → first ≤ h
    → a * h + 2 * first + b * k + c * l ≤ most * (h + k + l)
three-shares most a b c first h k l a-by b-by c-by low =
    omega (arith, mul-add most (h + k) l, two-shares most a b first h k a-by b-by low, mul-le-mul_right l c-by)

module _ (n net : ℕ) where
  -- What each occurrence adds to the load of the net.
  module _ (load : Occurrence → ℕ)
      (at_one : (x : Tree) (s : ℕ) → load (behind_one n x s) ≡ hits net s + its n net x s)
      (at-two : (x y : Tree) (s : ℕ)
      → load (behind_two n x y s) ≡ hits net s + its n net x s + 2 * hits net (p_net n y (s + leaves x)) + hits net (g_net n y (s + leaves x)))
      (at-pass : (x y z : Tree) (s : ℕ)
      → load (passes n x y z s) ≡ hits net (p_net n x s) + hits net (p_net n y (s + leaves x)) + hits net (p_net n z (s + leaves x + leaves y)))
      (at-make : (x y z : Tree) (s : ℕ)
      → load (makes n x y z s)
      ≡ hits net (g_net n x s)
      + its n net y (s + leaves x)
      + 2 * hits net (p_net n z (s + leaves x + leaves y))
      + hits net (g_net n z (s + leaves x + leaves y))) where
    node-total :
        (x y z : Tree) (s : ℕ)
        → total load (ahead n (node x y z) s)
        ≤ total load (ahead n x s)
        + 4 * its n net x s
        + (total load (ahead n y (s + leaves x)) + 4 * its n net y (s + leaves x))
        + (total load (ahead n z (s + leaves x + leaves y)) + 4 * its n net z (s + leaves x + leaves y))
        + 2 * hits net s
    unfolding ahead total
    node-total x y z s =
        simp total-append (omega (arith, at_one x s, at-two x y s, at-pass x y z s, at-make x y z s))

    leaf-total : (s : ℕ) → total load (ahead n leaf s) ≡ 0
    unfolding ahead total
    leaf-total s = refl

    ahead-load :
        (t : Tree) (s : ℕ)
        → total load (ahead n t s) + 4 * its n net t s ≤ lean t * hits_in net s (leaves t) + 4 * within n net t s
    unfolding within lean leaves
    ahead-load leaf s = omega (arith, leaf-total s)
    ahead-load (node x y z) s =
        let sy = s + leaves x in
        let sz = sy + leaves y in
        let some = some-leaves x in
        let shares =
        three-shares (max (lean x + 2) (max (lean y) (lean z))) (lean x) (lean y) (lean z) (hits net s)
        (hits_in net s (leaves x)) (hits_in net sy (leaves y)) (hits_in net sz (leaves z))
        (omega arith) (omega arith) (omega arith) (hits-first net s (leaves x) some)
        in
        rw (carries_in_three n net s (leaves x) (leaves y) (leaves z))
        (omega (arith, shares, node-total x y z s, ahead-load x s, ahead-load y sy, ahead-load z sz))

    one-total :
        (x : Tree) (steps : List Step) (s : ℕ)
        → total load (chain n (over_one x ∷ steps) s)
        ≤ total load (ahead n x s) + 4 * its n net x s + 2 * hits net s + total load (chain n steps (s + leaves x))
    unfolding chain total
    one-total x steps s = simp total-append (omega (arith, at_one x s))

    two-total :
        (x y : Tree) (steps : List Step) (s : ℕ)
        → total load (chain n (over_two x y ∷ steps) s)
        ≤ total load (ahead n x s)
        + 4 * its n net x s
        + (total load (ahead n y (s + leaves x)) + 4 * its n net y (s + leaves x))
        + 2 * hits net s
        + total load (chain n steps (s + leaves x + leaves y))
    unfolding chain total
    two-total x y steps s = simp total-append (omega (arith, at_one x s, at-two x y s))

    no_total : (s : ℕ) → total load (chain n [] s) ≡ 0
    unfolding chain total
    no_total s = refl

    chain-load :
        (steps : List Step) (s : ℕ)
        → total load (chain n steps s) ≤ lean_steps steps * hits_in net s (width steps) + 4 * within_steps n net steps s
    unfolding within_steps lean_steps width
    chain-load [] s = omega (arith, no_total s)
    chain-load (over_one x ∷ steps) s =
        let next = s + leaves x in
        let shares =
        two-shares (max (lean x + 2) (lean_steps steps)) (lean x) (lean_steps steps) (hits net s)
        (hits_in net s (leaves x)) (hits_in net next (width steps))
        (omega arith) (omega arith) (hits-first net s (leaves x) (some-leaves x))
        in
        rw (hits_in-append net s (leaves x) (width steps))
        (omega (arith, shares, one-total x steps s, ahead-load x s, chain-load steps next))
    chain-load (over_two x y ∷ steps) s =
        let sy = s + leaves x in
        let next = sy + leaves y in
        let shares =
        three-shares (max (lean x + 2) (max (lean y) (lean_steps steps))) (lean x) (lean y) (lean_steps steps) (hits net s)
        (hits_in net s (leaves x)) (hits_in net sy (leaves y)) (hits_in net next (width steps))
        (omega arith) (omega arith) (omega arith) (hits-first net s (leaves x) (some-leaves x))
        in
        rw (carries_in_three n net s (leaves x) (leaves y) (width steps))
        (omega (arith, shares, two-total x y steps s, ahead-load x s, ahead-load y sy, chain-load steps next))

    pub lookahead-load : (steps : List Step) → width steps ≡ n → total load (chain n steps 0) ≤ max 4 (lean_steps steps)
    lookahead-load steps whole =
        at_most (lean_steps steps) (hits_in net 0 n) (rows n net 0 n) (one_of_all n net)
        (rw whole at (chain-load steps 0))
        (rw whole at (steps-rows n net steps 0))
      where
        at_most : (e h r : ℕ) → h + r ≤ 1 → total load (chain n steps 0) ≤ e * h + 4 * within_steps n net steps 0 → within_steps n net steps 0 ≤ r
            → total load (chain n steps 0) ≤ max 4 e
        at_most e zero r few by-h by-r = omega (arith, mul-zero e)
        at_most e (suc zero) r few by-h by-r = omega (arith, mul-one e)
        at_most e (suc (suc h)) r few by-h by-r = absurd (omega arith)
