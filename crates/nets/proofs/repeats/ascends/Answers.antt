-- Each entry that is above the one before it is none of those before.
use Rattle.std.proofs.Common.{ap, sym, ◌∙◌, take_all}
use Rattle.meaning.specs.Boxlist.{duplicates}
use Rattle.nets.proofs.Climbs.{first, higher}
use Rattle.nets.proofs.repeats.ascends.Goals as goal

pub loop-i-init : goal.loop-i-init
loop-i-init c = first c.args.list.now

pub loop-i-preserved : goal.loop-i-preserved
loop-i-preserved c = higher c.loop-i.invariant c.loop-i-test.true c.if-list-i.false

pub returns : goal.returns
returns c e = ap duplicates (sym (take_all c.loop-i.i c.args.list.now c.loop-i-test.false)) ∙ c.loop-i.invariant.single
