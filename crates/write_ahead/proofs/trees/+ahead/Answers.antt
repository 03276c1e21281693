-- `trees::ahead` meets its contract: a leaf has nothing inside it, and the pieces of a node are put one behind the other. Assumes nothing.
use native.Mathlib.Omega.{arith}
use Rattle.write_trees.proofs.Shapes.{counted}
use Rattle.write_ahead.proofs.Nodes.{leaf-laid, low_able, one_able, middle_able, two_able, high_able, join_able, node-laid}
use Rattle.write_ahead.proofs.trees.+ahead.Goals as goal

pub ahead-x-requires : goal.ahead-x-requires
ahead-x-requires t c =
    let node = c.in-Node.ensures in
    let bits = counted _ _ _ node.is in
    (omega arith, low_able node c.requires)

pub over_one-y_at-requires : goal.over_one-y_at-requires
over_one-y_at-requires t c = one_able c.in-Node.ensures c.requires c.ahead-x.ensures

pub ahead-y-requires : goal.ahead-y-requires
ahead-y-requires t c =
    let node = c.in-Node.ensures in
    let bits = counted _ _ _ node.is in
    (omega arith, middle_able node c.requires c.ahead-x.ensures c.over_one-y_at.ensures)

pub over_two-z_at-requires : goal.over_two-z_at-requires
over_two-z_at-requires t c =
    two_able c.in-Node.ensures c.requires c.ahead-x.ensures c.over_one-y_at.ensures c.ahead-y.ensures

pub ahead-z-requires : goal.ahead-z-requires
ahead-z-requires t c =
    let node = c.in-Node.ensures in
    let bits = counted _ _ _ node.is in (
      omega arith,
      high_able node c.requires c.ahead-x.ensures c.over_one-y_at.ensures c.ahead-y.ensures c.over_two-z_at.ensures,
    )

-- The net of a node's P is small.
pub overflow_add-p-in-Node : goal.overflow_add-p-in-Node
overflow_add-p-in-Node t c =
    let able = two_able c.in-Node.ensures c.requires c.ahead-x.ensures c.over_one-y_at.ensures c.ahead-y.ensures in
    omega (arith, able.0, able.1)

pub join-requires : goal.join-requires
join-requires t c =
    join_able c.in-Node.ensures c.requires c.ahead-x.ensures c.over_one-y_at.ensures c.ahead-y.ensures c.over_two-z_at.ensures
    c.ahead-z.ensures

pub returns-in-Leaf : goal.returns-in-Leaf
returns-in-Leaf t c = leaf-laid _ _ _ _ _ c.in-Leaf.ensures

pub returns-in-Node : goal.returns-in-Node
returns-in-Node t c =
    node-laid c.in-Node.ensures c.requires c.ahead-x.ensures c.over_one-y_at.ensures c.ahead-y.ensures c.over_two-z_at.ensures
    c.ahead-z.ensures
    c.join.ensures
