-- At each turn one net more is marked.
use Rattle.std.proofs.Common.{arith}
use Rattle.fault_parts.proofs.Marking.{going-first, going_on, going-last}
use Rattle.fault_parts.proofs.marks.mark_all.Goals as goal

pub loop-net-init : goal.loop-net-init
loop-net-init c = λ known m. going-first _ known _ m

pub loop-net-preserved : goal.loop-net-preserved
loop-net-preserved c = λ known m.
    going_on _ known _ c.loop-net.net-index c.loop-net-test.true
    (omega (arith, c.type_inv.list c.loop-net.net-index)) (c.loop-net.invariant known m)

pub returns : goal.returns
returns c known m = going-last _ known _ _ c.loop-net-test.false (c.loop-net.invariant known m)
