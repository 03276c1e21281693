-- In a turn the module's start is listed, its number is there, and there is room to name it.
use Rattle.std.proofs.Common.{arith, length, ◌<◌}
use Rattle.open_places.proofs.Naming.{named_none, named_more, named-all}
use Rattle.open_places.proofs.name.Goals as goal

pub loop-k-init : goal.loop-k-init
loop-k-init c = λ h. named_none h.ms c.args.names.now

pub loop-k-preserved : goal.loop-k-preserved
loop-k-preserved c =
    let p = c.requires in
    let l = c.loop-k in
    let room : l.k < length l.names = omega (arith, p.all, p.room) in
    λ h. named_more (l.invariant h) room (λ m later e. h.head l.k e)

pub returns : goal.returns
returns c h = named-all (c.loop-k.invariant h) (omega (arith, c.loop-k-test.false, h.all))
