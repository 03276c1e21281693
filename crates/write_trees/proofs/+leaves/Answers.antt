-- `write_trees::leaves` meets its contract: a node has the bits of its parts. Assumes nothing.
use native.Mathlib.Omega.{arith}
use Rattle.write_trees.proofs.Shapes.{one_bit, counted}
use Rattle.write_trees.proofs.+leaves.Goals as goal

pub leaves-requires : goal.leaves-requires
leaves-requires t c =
    let b = counted _ _ _ c.in-Node.ensures.is in
    (omega arith, (c.in-Node.ensures.low, omega arith))

pub leaves-requires-in-Node : goal.leaves-requires-in-Node
leaves-requires-in-Node t c =
    let b = counted _ _ _ c.in-Node.ensures.is in
    (omega arith, (c.in-Node.ensures.middle, omega arith))

pub overflow_add-result : goal.overflow_add-result
overflow_add-result t c =
    omega (arith, c.requires, counted _ _ _ c.in-Node.ensures.is, c.leaves.ensures, c.leaves-in-Node.ensures)

pub leaves-requires-in-Node-2 : goal.leaves-requires-in-Node-2
leaves-requires-in-Node-2 t c =
    let b = counted _ _ _ c.in-Node.ensures.is in
    (omega arith, (c.in-Node.ensures.high, omega arith))

pub overflow_add-result-in-Node : goal.overflow_add-result-in-Node
overflow_add-result-in-Node t c =
    omega (
      arith,
      c.requires,
      counted _ _ _ c.in-Node.ensures.is,
      c.leaves.ensures,
      c.leaves-in-Node.ensures,
      c.leaves-in-Node-2.ensures,
    )

pub returns-in-Leaf : goal.returns-in-Leaf
returns-in-Leaf t c = one_bit c.in-Leaf.ensures

pub returns-in-Node : goal.returns-in-Node
returns-in-Node t c =
    omega (
      arith,
      counted _ _ _ c.in-Node.ensures.is,
      c.leaves.ensures,
      c.leaves-in-Node.ensures,
      c.leaves-in-Node-2.ensures,
    )
