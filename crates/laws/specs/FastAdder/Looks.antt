-- Values of the look-ahead's nets that satisfy its occurrences, tree by tree: the equations without the occurrences. For values of any
-- kind and whatever gates make of them.
use Rattle.std.specs.Prelude.{ℕ, ◌+◌, ◌≡◌}
use mathlib.Core.List.{List, [], ◌∷◌, ◌++◌}
use Rattle.meaning.specs.Lists.{All, more}
use Rattle.meaning.specs.Syntax.{Occurrence}
use Rattle.meaning.specs.Evaluation.{Env, look, look_all, pairs, walk, run_module, run}
use Rattle.meaning.specs.FastAdder.{AND3, Tree, leaf, node, leaves, Step, over_one, over_two, p_net, g_net, behind_one, behind_two, passes, makes, ahead, chain}
use Rattle.laws.specs.FastAdder.Equations.{Satisfied}
use Rattle.laws.specs.FastAdder.Lattice.{over, over_both}
use Rattle.laws.specs.FastAdder.Passing.{carriers}
use Rattle.laws.specs.FastAdder.Wiring.{regroup}

pub first : {P : Occurrence → Type 0} {o : Occurrence} {os : List Occurrence} → All P (o ∷ os) → P o
first (more p rest) = p

pub after : {P : Occurrence → Type 0} {o : Occurrence} {os : List Occurrence} → All P (o ∷ os) → All P os
after (more p rest) = rest

module _ {A : Type 0} (gate_result : ℕ → List A → A) (n : ℕ) (value : ℕ → A) where
  abbrev value_p : Tree → ℕ → A
  value_p t s = value (p_net n t s)

  abbrev value_g : Tree → ℕ → A
  value_g t s = value (g_net n t s)

  -- The carry behind a tree, behind two, and P and G of three.
  abbrev pub CarryOne : (x : Tree) (s : ℕ) → Type 0
  CarryOne x s = value (s + leaves x) ≡ over gate_result (value s) (value_p x s) (value_g x s)

  abbrev pub CarryTwo : (x y : Tree) (s : ℕ) → Type 0
  CarryTwo x y s =
      let sy = s + leaves x in
      value (sy + leaves y) ≡ over_both gate_result (value s) (value_p x s) (value_g x s) (value_p y sy) (value_g y sy)

  abbrev pub NodeP : (x y z : Tree) (s : ℕ) → Type 0
  NodeP x y z s =
      let sy = s + leaves x in
      value_p (node x y z) s ≡ gate_result AND3 (value_p x s ∷ value_p y sy ∷ value_p z (sy + leaves y) ∷ [])

  abbrev pub NodeG : (x y z : Tree) (s : ℕ) → Type 0
  NodeG x y z s =
      let sy = s + leaves x in
      let sz = sy + leaves y in
      value_g (node x y z) s ≡ over_both gate_result (value_g x s) (value_p y sy) (value_g y sy) (value_p z sz) (value_g z sz)

  -- A tree at a bit, and steps from a bit on.
  pub data Looks : Tree → ℕ → Type 0 where
    looks-leaf : {s : ℕ} → Looks leaf s
    looks-node :
        {x y z : Tree} {s : ℕ}
        → Looks x s → CarryOne x s
        → Looks y (s + leaves x) → CarryTwo x y s
        → Looks z (s + leaves x + leaves y) → NodeP x y z s → NodeG x y z s
        → Looks (node x y z) s

  pub data Chained : List Step → ℕ → Type 0 where
    chained-end : {s : ℕ} → Chained [] s
    chained-one : {x : Tree} {steps : List Step} {s : ℕ} → Looks x s → CarryOne x s → Chained steps (s + leaves x)
        → Chained (over_one x ∷ steps) s
    chained-two : {x y : Tree} {steps : List Step} {s : ℕ} → Looks x s → CarryOne x s
        → Looks y (s + leaves x) → CarryTwo x y s → Chained steps (s + leaves x + leaves y)
        → Chained (over_two x y ∷ steps) s

module _ {A : Type 0} (unset : A) (gate_result : ℕ → List A → A) (n : ℕ) (env : Env A) where
  abbrev pub value : ℕ → A
  value net = look unset net env

  abbrev Holds : Occurrence → Type 0
  Holds = Satisfied unset gate_result carriers env

  carry-one : (x : Tree) (s : ℕ) → Holds (behind_one n x s) → CarryOne gate_result n value x s
  unfolding look_all run run_module walk pairs look
  carry-one x s h = cc h.equation

  carry-two : (x y : Tree) (s : ℕ) → Holds (behind_two n x y s) → CarryTwo gate_result n value x y s
  unfolding look_all run run_module walk pairs look
  carry-two x y s h = cc h.equation

  node-p : (x y z : Tree) (s : ℕ) → Holds (passes n x y z s) → NodeP gate_result n value x y z s
  unfolding look_all
  node-p x y z s h = cc h.equation

  node-g : (x y z : Tree) (s : ℕ) → Holds (makes n x y z s) → NodeG gate_result n value x y z s
  unfolding look_all run run_module walk pairs look
  node-g x y z s h = cc h.equation

  ahead-looks :
      (t : Tree) (s : ℕ) (rest : List Occurrence)
      → All Holds (ahead n t s ++ rest)
      → Looks gate_result n value t s × All Holds rest
  unfolding ahead
  ahead-looks leaf s rest h = (looks-leaf, h)
  ahead-looks (node x y z) s rest h =
      let (in_x, at_x) = ahead-looks x s _ (rw (regroup n x y z s rest) at h) in
      let (in_y, at_y) = ahead-looks y (s + leaves x) _ (after at_x) in
      let (in_z, at-z) = ahead-looks z (s + leaves x + leaves y) _ (after at_y) in (
        looks-node in_x (carry-one x s (first at_x)) in_y (carry-two x y s (first at_y)) in_z (node-p x y z s (first at-z))
            (node-g x y z s (first (after at-z))),
        after (after at-z),
      )

  pub chain-looks : (steps : List Step) (s : ℕ) → All Holds (chain n steps s) → Chained gate_result n value steps s
  unfolding chain
  chain-looks [] s h = chained-end
  chain-looks (over_one x ∷ steps) s h =
      let (in_x, at_x) = ahead-looks x s _ h in
      chained-one in_x (carry-one x s (first at_x)) (chain-looks steps (s + leaves x) (after at_x))
  chain-looks (over_two x y ∷ steps) s h =
      let (in_x, at_x) = ahead-looks x s _ h in
      let (in_y, at_y) = ahead-looks y (s + leaves x) _ (after at_x) in
      chained-two in_x (carry-one x s (first at_x)) in_y (carry-two x y s (first at_y)) (chain-looks steps (s + leaves x + leaves y) (after at_y))
