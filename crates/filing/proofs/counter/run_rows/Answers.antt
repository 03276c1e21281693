-- What the block's rows come to.
use Rattle.std.proofs.Common.{arith}
use Rattle.filing.proofs.Calling.{rows_run}
use Rattle.filing.proofs.counter.run_rows.Goals as goal

pub returns : goal.returns
returns c r =
    let a = c.args in
    rows_run a.file.now a.values.now a.outputs.now _ a.rows 158 r (omega arith) c.evaluate_rows.ensures.settled.answered.out
