-- `chain::chain` meets its contract: a leaf has no steps, and those over a node go on in the part that the last bit lies in. Assumes nothing.
use Prim.Native.Nat.{◌+◌, ◌<◌, ◌≤◌}
use native.Mathlib.Omega.{arith}
use mathlib.Core.Path.{◌≡◌}
use Rattle.meaning.specs.FastAdder.{leaves}
use Rattle.write_trees.specs.Trees.{tree_of}
use Rattle.write_trees.proofs.Shapes.{counted}
use Rattle.write_ahead.proofs.Chains.{no_steps, laid-few, parts-few, low_chainable, low-chained, low_able, one_able, middle_chainable, middle-chained, middle_able, two_able, high_chainable, high-chained}
use Rattle.write_ahead.proofs.chain.+chain.Goals as goal

pub leaves-low-requires : goal.leaves-low-requires
leaves-low-requires t c = (c.in-Node.ensures.low, (parts-few c.in-Node.ensures c.requires).0)

pub chain-requires : goal.chain-requires
chain-requires t c =
    let node = c.in-Node.ensures in
    let bits = counted _ _ _ node.is in
    (omega arith, low_chainable node c.requires (omega (arith, c.if-left-low.true, c.leaves-low.ensures)))

pub returns-then-left-low : goal.returns-then-left-low
returns-then-left-low t c =
    low-chained c.in-Node.ensures c.requires (omega (arith, c.if-left-low.true, c.leaves-low.ensures)) c.chain.ensures

pub leaves-requires : goal.leaves-requires
leaves-requires t c = (c.in-Node.ensures.middle, (parts-few c.in-Node.ensures c.requires).1)

pub overflow_add-both : goal.overflow_add-both
overflow_add-both t c =
    omega (arith, c.leaves.ensures, c.leaves-low.ensures, parts-few c.in-Node.ensures c.requires)

-- The steps are past the lowest tree.
pub ahead-x-requires : goal.ahead-x-requires
ahead-x-requires t c =
    low_able c.in-Node.ensures c.requires (omega (arith, c.if-left-low.false, c.leaves-low.ensures))

pub over_one-behind-requires : goal.over_one-behind-requires
over_one-behind-requires t c =
    one_able c.in-Node.ensures c.requires (omega (arith, c.if-left-low.false, c.leaves-low.ensures)) c.ahead-x.ensures

-- The rest lies inside the middle tree.
pub chain-rest-requires : goal.chain-rest-requires
chain-rest-requires t c =
    let node = c.in-Node.ensures in
    let bits = counted _ _ _ node.is in
    let past : leaves (tree_of c.in-Node.x) ≤ c.args.left = omega (arith, c.if-left-low.false, c.leaves-low.ensures) in
    let inside : c.args.left < leaves (tree_of c.in-Node.x) + leaves (tree_of c.in-Node.y) =
    omega (arith, c.if-left-both.true, c.leaves.ensures, c.leaves-low.ensures) in (
      omega arith,
      middle_chainable node c.requires past c.ahead-x.ensures c.over_one-behind.ensures inside c.leaves-low.result c.leaves-low.ensures,
    )

pub overflow_add-result : goal.overflow_add-result
overflow_add-result t c =
    let past : leaves (tree_of c.in-Node.x) ≤ c.args.left = omega (arith, c.if-left-low.false, c.leaves-low.ensures) in
    let inside : c.args.left < leaves (tree_of c.in-Node.x) + leaves (tree_of c.in-Node.y) =
    omega (arith, c.if-left-both.true, c.leaves.ensures, c.leaves-low.ensures) in
    let able =
    middle_chainable c.in-Node.ensures c.requires past c.ahead-x.ensures c.over_one-behind.ensures inside c.leaves-low.result
    c.leaves-low.ensures in
    omega (arith, laid-few able c.chain-rest.ensures)

pub returns-then-left-both : goal.returns-then-left-both
returns-then-left-both t c =
    middle-chained c.in-Node.ensures c.requires (omega (arith, c.if-left-low.false, c.leaves-low.ensures)) c.ahead-x.ensures
    c.over_one-behind.ensures
    (omega (arith, c.if-left-both.true, c.leaves.ensures, c.leaves-low.ensures))
    c.leaves-low.result
    c.leaves-low.ensures
    c.chain-rest.ensures

-- The rest is past the middle tree too.
pub ahead-y-requires : goal.ahead-y-requires
ahead-y-requires t c =
    middle_able c.in-Node.ensures c.requires (omega (arith, c.if-left-low.false, c.leaves-low.ensures)) c.ahead-x.ensures
    c.over_one-behind.ensures
    (omega (arith, c.if-left-both.false, c.leaves.ensures, c.leaves-low.ensures))

pub over_two-behind-requires : goal.over_two-behind-requires
over_two-behind-requires t c =
    two_able c.in-Node.ensures c.requires (omega (arith, c.if-left-low.false, c.leaves-low.ensures)) c.ahead-x.ensures
    c.over_one-behind.ensures
    (omega (arith, c.if-left-both.false, c.leaves.ensures, c.leaves-low.ensures))
    c.ahead-y.ensures

pub chain-rest-requires-in-Node : goal.chain-rest-requires-in-Node
chain-rest-requires-in-Node t c =
    let node = c.in-Node.ensures in
    let bits = counted _ _ _ node.is in
    let past : leaves (tree_of c.in-Node.x) ≤ c.args.left = omega (arith, c.if-left-low.false, c.leaves-low.ensures) in
    let both : c.leaves-low.result + c.leaves.result ≡ leaves (tree_of c.in-Node.x) + leaves (tree_of c.in-Node.y) =
    omega (arith, c.leaves.ensures, c.leaves-low.ensures) in
    let outside : leaves (tree_of c.in-Node.x) + leaves (tree_of c.in-Node.y) ≤ c.args.left =
    omega (arith, c.if-left-both.false, both) in (
      omega arith,
      high_chainable node c.requires past c.ahead-x.ensures c.over_one-behind.ensures outside c.ahead-y.ensures
          c.over_two-behind.ensures
          (c.leaves-low.result + c.leaves.result)
          both,
    )

pub overflow_add-result-in-Node : goal.overflow_add-result-in-Node
overflow_add-result-in-Node t c =
    let past : leaves (tree_of c.in-Node.x) ≤ c.args.left = omega (arith, c.if-left-low.false, c.leaves-low.ensures) in
    let both : c.leaves-low.result + c.leaves.result ≡ leaves (tree_of c.in-Node.x) + leaves (tree_of c.in-Node.y) =
    omega (arith, c.leaves.ensures, c.leaves-low.ensures) in
    let outside : leaves (tree_of c.in-Node.x) + leaves (tree_of c.in-Node.y) ≤ c.args.left =
    omega (arith, c.if-left-both.false, both) in
    let able =
    high_chainable c.in-Node.ensures c.requires past c.ahead-x.ensures c.over_one-behind.ensures outside c.ahead-y.ensures
    c.over_two-behind.ensures
    (c.leaves-low.result + c.leaves.result)
    both in
    omega (arith, laid-few able c.chain-rest-in-Node.ensures)

pub returns-in-Leaf : goal.returns-in-Leaf
returns-in-Leaf t c = no_steps _ _ _ _ _ _ c.in-Leaf.ensures

pub returns-else-left-both : goal.returns-else-left-both
returns-else-left-both t c =
    let past : leaves (tree_of c.in-Node.x) ≤ c.args.left = omega (arith, c.if-left-low.false, c.leaves-low.ensures) in
    let both : c.leaves-low.result + c.leaves.result ≡ leaves (tree_of c.in-Node.x) + leaves (tree_of c.in-Node.y) =
    omega (arith, c.leaves.ensures, c.leaves-low.ensures) in
    let outside : leaves (tree_of c.in-Node.x) + leaves (tree_of c.in-Node.y) ≤ c.args.left =
    omega (arith, c.if-left-both.false, both) in
    high-chained c.in-Node.ensures c.requires past c.ahead-x.ensures c.over_one-behind.ensures outside c.ahead-y.ensures
    c.over_two-behind.ensures
    (c.leaves-low.result + c.leaves.result)
    both
    c.chain-rest-in-Node.ensures
