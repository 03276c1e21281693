-- At each turn one net more is new and marked, or it is known.
use Rattle.std.proofs.Common.{◌≡◌, length, arith}
use Rattle.fault_parts.proofs.Marking.{learning-first, learning-on, learning-stops, learning-last, going-last}
use Rattle.fault_parts.proofs.marks.learn.Goals as goal

pub loop-i-init : goal.loop-i-init
loop-i-init c = λ known m. learning-first _ known _ m

pub returns-then-marks-net-eq1 : goal.returns-then-marks-net-eq1
returns-then-marks-net-eq1 c known m =
    (learning-stops _ known _ c.loop-i.i c.loop-i-test.true (c.loop-i.invariant known m) c.if-marks-net-eq1.true, λ e. absurd (omega (arith, c.loop-i-test.true, e)))

pub loop-i-preserved : goal.loop-i-preserved
loop-i-preserved c = λ known m.
    learning-on _ known _ c.loop-i.i c.loop-i-test.true (c.loop-i.invariant known m)
    (omega (arith, c.type_inv.list c.loop-i.i)) c.if-marks-net-eq1.false

pub returns : goal.returns
returns c known m =
    let g = c.loop-i.invariant known m in
    let all : c.loop-i.i ≡ length c.args.list.now = omega arith in
    (rw (← all) (learning-last _ known _ _ c.loop-i-test.false g), λ e. going-last _ known _ _ c.loop-i-test.false g.going)
