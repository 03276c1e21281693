-- What is copied and what is left to copy make up the whole, whatever an entry reads as that is not there.
use Rattle.image.specs.Gathering.{Gathering}
use Rattle.run_walk.proofs.slots.copy.Given as goal

abbrev pub invariant-loop-i : goal.invariant-loop-i
invariant-loop-i g l = (none : _) → Gathering none l.image l.from l.to l.source l.target l.initial.scratch l.i l.scratch
