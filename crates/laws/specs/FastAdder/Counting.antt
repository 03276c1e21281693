-- What is counted occurrence by occurrence (occurrences, driven nets, expanded size, gates) is counted once over trees: as much for each
-- node, and as much for each step.
use Prim.Native.Nat.{ℕ, zero, suc, ◌+◌, ◌*◌}
use Rattle.std.specs.Prelude.{◌≡◌, cond, length}
use Rattle.std.proofs.Math.Path.{refl}
use mathlib.Core.List.{List, [], ◌∷◌, ◌++◌}
use Rattle.std.proofs.Math.Nat.{suc-mul, zero-mul}
use Rattle.std.proofs.Common.{add-mul, length-append}
use native.Mathlib.Omega.{arith}
use Rattle.meaning.specs.Syntax.{Occurrence}
use Rattle.meaning.specs.Gates.{is_gate}
use Rattle.meaning.specs.Layout.{each, occurrence_numbers}
use Rattle.meaning.specs.Limits.{driven, body_size}
use Rattle.meaning.specs.Figures.{body_weight}
use Rattle.meaning.specs.Counter.{gate_on}
use Rattle.meaning.specs.FastAdder.{Tree, leaf, node, leaves, Step, over_one, over_two, gate_row, behind_one, behind_two, passes, makes, ahead, chain}
use Rattle.laws.specs.FastAdder.Signals.{width}

-- Some count of each occurrence, over all.
unfoldable pub total : (Occurrence → ℕ) → List Occurrence → ℕ
total count [] = 0
total count (o ∷ os) = count o + total count os

pub total-append : (count : Occurrence → ℕ) (os ps : List Occurrence) → total count (os ++ ps) ≡ total count os + total count ps
unfolding total
total-append count [] ps = omega arith
total-append count (o ∷ os) ps = omega (arith, total-append count os ps)

pub length-total : (os : List Occurrence) → length os ≡ total (λ o. 1) os
unfolding total
length-total [] = refl
length-total (o ∷ os) = omega (arith, length-total os)

pub driven-total : (os : List Occurrence) → length (driven os) ≡ total (λ o. length o.drives) os
unfolding total driven
driven-total [] = refl
driven-total (o ∷ os) = omega (arith, length-append o.drives (driven os), driven-total os)

pub numbers-total : (os : List Occurrence) → length (each occurrence_numbers os) ≡ total (λ o. length (occurrence_numbers o)) os
unfolding total each
numbers-total [] = refl
numbers-total (o ∷ os) = omega (arith, length-append (occurrence_numbers o) (each occurrence_numbers os), numbers-total os)

module _ (later : ℕ → ℕ) where
  unfoldable pub visits : Occurrence → ℕ
  visits o = suc (cond (is_gate o.refers) 0 (later o.refers))

  pub size-total : (os : List Occurrence) → body_size later os ≡ total visits os
  unfolding total body_size visits
  size-total [] = refl
  size-total (o ∷ os) = omega (arith, size-total os)

  unfoldable pub gates_of : Occurrence → ℕ
  gates_of o = cond (is_gate o.refers) 1 (later o.refers)

  pub weight_total : (os : List Occurrence) → body_weight (λ kind. 1) later os ≡ total gates_of os
  unfolding total body_weight gates_of
  weight_total [] = refl
  weight_total (o ∷ os) = omega (arith, weight_total os)

-- How many nodes a tree has, and steps: how many nodes, and how many go over one tree and over two.
nodes : Tree → ℕ
nodes leaf = 0
nodes (node x y z) = suc (nodes x + nodes y + nodes z)

leaves-nodes : (t : Tree) → leaves t ≡ 2 * nodes t + 1
unfolding leaves nodes
leaves-nodes leaf = refl
leaves-nodes (node x y z) = omega (arith, leaves-nodes x, leaves-nodes y, leaves-nodes z)

pub nodes_in : List Step → ℕ
nodes_in [] = 0
nodes_in (over_one x ∷ steps) = nodes x + nodes_in steps
nodes_in (over_two x y ∷ steps) = nodes x + nodes y + nodes_in steps

unfoldable pub ones : List Step → ℕ
ones [] = 0
ones (over_one x ∷ steps) = suc (ones steps)
ones (over_two x y ∷ steps) = ones steps

unfoldable pub twos : List Step → ℕ
twos [] = 0
twos (over_one x ∷ steps) = twos steps
twos (over_two x y ∷ steps) = suc (twos steps)

pub width-counted : (steps : List Step) → width steps ≡ 2 * nodes_in steps + ones steps + 2 * twos steps
unfolding width nodes_in ones twos
width-counted [] = refl
width-counted (over_one x ∷ steps) = omega (arith, leaves-nodes x, width-counted steps)
width-counted (over_two x y ∷ steps) = omega (arith, leaves-nodes x, leaves-nodes y, width-counted steps)

-- A count that is the same wherever an occurrence stands.
module _ (n : ℕ) (count : Occurrence → ℕ) (one two pass : ℕ)
    (at_one : (x : Tree) (s : ℕ) → count (behind_one n x s) ≡ one)
    (at-two : (x y : Tree) (s : ℕ) → count (behind_two n x y s) ≡ two)
    (at-pass : (x y z : Tree) (s : ℕ) → count (passes n x y z s) ≡ pass)
    (at-make : (x y z : Tree) (s : ℕ) → count (makes n x y z s) ≡ two) where
  abbrev per_node : ℕ
  per_node = one + two + pass + two

  total-ahead : (t : Tree) (s : ℕ) → total count (ahead n t s) ≡ nodes t * per_node
  unfolding ahead total nodes
  total-ahead leaf s = rw (zero-mul per_node)
  total-ahead (node x y z) s =
      let sy = s + leaves x in
      let sz = sy + leaves y in
      simp (total-append, suc-mul, add-mul)
      (omega (
        arith,
        total-ahead x s,
        total-ahead y sy,
        total-ahead z sz,
        at_one x s,
        at-two x y s,
        at-pass x y z s,
        at-make x y z s,
      ))

  pub total-chain :
      (steps : List Step) (s : ℕ)
      → total count (chain n steps s) ≡ nodes_in steps * per_node + ones steps * one + twos steps * (one + two)
  unfolding chain total nodes_in ones twos
  total-chain [] s = simp zero-mul (omega arith)
  total-chain (over_one x ∷ steps) s =
      simp (total-append, suc-mul, add-mul)
      (omega (arith, total-ahead x s, at_one x s, total-chain steps (s + leaves x)))
  total-chain (over_two x y ∷ steps) s =
      simp (total-append, suc-mul, add-mul)
      (omega (
        arith,
        total-ahead x s,
        total-ahead y (s + leaves x),
        at_one x s,
        at-two x y s,
        total-chain steps (s + leaves x + leaves y),
      ))

-- A row of one gate.
module _ (count : Occurrence → ℕ) (kind per_gate : ℕ) (at-gate : (net a b : ℕ) → count (gate_on net kind a b) ≡ per_gate) where
  pub total-row : (net a b n : ℕ) → total count (gate_row kind net a b n) ≡ n * per_gate
  unfolding gate_row total
  total-row net a b zero = rw (zero-mul per_gate)
  total-row net a b (suc n) = simp suc-mul (omega (arith, at-gate net a b, total-row (suc net) (suc a) (suc b) n))
