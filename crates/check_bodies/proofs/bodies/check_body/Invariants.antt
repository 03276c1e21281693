-- How far the walk has come at each turn.
use Rattle.check_bodies.proofs.Walking.{Walking}
use Rattle.check_bodies.proofs.bodies.check_body.Given as goal

abbrev pub invariant-loop : goal.invariant-loop
invariant-loop l =
    Walking l.numbering.first.now l.numbering.inputs.now l.numbering.outputs.now l.base l.k l.from l.count l.width l.figures.sizes.now
    l.figures.rooms.now l.fn.numbers l.fn.slots l.numbers l.slots l.walked.next l.walked.nets l.counter l.walked.sums
