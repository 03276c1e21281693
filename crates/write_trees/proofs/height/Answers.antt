-- `write_trees::height` meets its contract. Assumes nothing.
use Rattle.std.proofs.Common.{arith}
use Rattle.write_trees.proofs.Heights.{searching_start, few-leaves, searching_more, searching_end, searching_top}
use Rattle.write_trees.proofs.height.Goals as goal

pub loop-height-init : goal.loop-height-init
loop-height-init c = searching_start c.args.width

pub leaves-requires : goal.leaves-requires
leaves-requires c =
    let low = c.loop-height.invariant.low in
    (omega (arith, low), few-leaves c.loop-height.height low)

pub returns-then-leaves-width : goal.returns-then-leaves-width
returns-then-leaves-width c = (
  searching_end c.loop-height.invariant (omega (arith, c.if-leaves-width.true, c.leaves.ensures)),
  c.loop-height.invariant.low,
)

pub loop-height-preserved : goal.loop-height-preserved
loop-height-preserved c =
    searching_more c.loop-height.invariant c.requires (omega (arith, c.if-leaves-width.false, c.leaves.ensures))

pub returns : goal.returns
returns c = (searching_top c.loop-height.invariant c.requires c.loop-height-test.false, omega arith)
