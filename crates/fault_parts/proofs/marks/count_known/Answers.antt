-- At each turn one net more is known, or it ends the count.
use Rattle.std.proofs.Common.{◌≡◌, length, arith}
use Rattle.fault_parts.proofs.Marking.{known_on, known-stops, known-last}
use Rattle.fault_parts.proofs.marks.count_known.Goals as goal

pub loop-i-init : goal.loop-i-init
loop-i-init c known m = omega arith

pub returns-then-marks-list-ne1 : goal.returns-then-marks-list-ne1
returns-then-marks-list-ne1 c known m =
    known-stops _ known _ m c.loop-i.i (c.loop-i.invariant known m) c.loop-i-test.true c.if-marks-list-ne1.true

pub loop-i-preserved : goal.loop-i-preserved
loop-i-preserved c known m =
    known_on _ known _ m c.loop-i.i (c.loop-i.invariant known m) c.loop-i-test.true c.if-marks-list-ne1.false

pub returns : goal.returns
returns c known m =
    let all : c.loop-i.i ≡ length c.args.list.now = omega arith in
    rw (← all) (known-last _ known _ m c.loop-i.i (c.loop-i.invariant known m) c.loop-i-test.false)
