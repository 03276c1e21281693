-- The next entry is i. Assumes nothing.
use Rattle.std.proofs.Common.{sym, ◌∙◌, arith}
use Rattle.meaning.specs.Adder.{up_from}
use Rattle.laws.specs.Adder.Nets.{length-up_from}
use Rattle.image.specs.Entries.{run_at}
use Rattle.flat_engine.proofs.Filling.{filling-none, filling-more, filling-all}
use Rattle.flat_engine.proofs.slots.number_inputs.Goals as goal

pub loop-i-init : goal.loop-i-init
loop-i-init c = filling-none c.args.scratch.now 0 (up_from 0 c.args.count) (omega (arith, length-up_from 0 c.args.count))

pub loop-i-preserved : goal.loop-i-preserved
loop-i-preserved c =
    let count = c.args.count in
    let i = c.loop-i.i in
    filling-more c.loop-i.invariant (omega (arith, length-up_from 0 count)) (omega arith) (sym (run_at 0 count i c.loop-i-test.true ∙ omega arith))

pub returns : goal.returns
returns c = filling-all c.loop-i.invariant (omega (arith, length-up_from 0 c.args.count))
