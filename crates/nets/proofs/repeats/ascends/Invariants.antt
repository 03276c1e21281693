-- The entries before place i are in no pair, and none of them is above the last.
use Rattle.nets.proofs.Climbs.{Climbed}
use Rattle.nets.proofs.repeats.ascends.Given as goal

abbrev pub invariant-loop-i : goal.invariant-loop-i
invariant-loop-i l = Climbed l.list l.i
