-- How far the walk has come, turn by turn.
use Rattle.std.proofs.lemmas.Result.{err_from_is_err_and}
use Rattle.check_bodies.proofs.Walking.{walk_begins, walk_ends, step-ready, walk-stops, walk-goes-on}
use Rattle.check_bodies.proofs.bodies.check_body.Goals as goal

pub loop-init : goal.loop-init
loop-init c = walk_begins c.requires c.nothing.ensures

pub check_occurrence-requires : goal.check_occurrence-requires
check_occurrence-requires c = step-ready c.requires c.loop.invariant c.loop-test.true

pub returns-in_err-walked : goal.returns-in_err-walked
returns-in_err-walked c =
    let p = err_from_is_err_and c.from_residual.result c.from_residual.ensures.1 in
    rw (p.1, p.2)
    (walk-stops c.requires c.loop.invariant c.loop-test.true c.check_occurrence.ensures c.in_err-walked.was)

pub loop-preserved : goal.loop-preserved
loop-preserved c =
    walk-goes-on c.requires c.loop.invariant c.loop-test.true c.check_occurrence.ensures
    c.in_ok-walked.was c.check_occurrence.auto.numbers c.check_occurrence.auto.slots

pub returns : goal.returns
returns c = walk_ends c.requires c.loop.invariant c.loop-test.false
