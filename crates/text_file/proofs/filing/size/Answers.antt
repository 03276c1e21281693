use Rattle.std.proofs.Common.{arith, get_or}
use Rattle.text_file.specs.Sizes.{sizing_first, sizing_next, sizing_last, width_few}
use Rattle.text_file.proofs.filing.size.Goals as goal

pub loop-number-init : goal.loop-number-init
loop-number-init c = sizing_first _

pub overflow_add-all : goal.overflow_add-all
overflow_add-all c =
    let w : _ = width_few (get_or c.args.numbers.now c.loop-number.number-index 0) _ c.width-all.ensures in
    omega (arith, c.loop-number.invariant.most)

pub loop-number-preserved : goal.loop-number-preserved
loop-number-preserved c =
    sizing_next _ _ c.loop-number.number-index _ (omega arith) c.width-all.ensures c.loop-number.invariant

pub returns : goal.returns
returns c = sizing_last _ _ c.loop-number.number-index (omega arith) c.loop-number.invariant
