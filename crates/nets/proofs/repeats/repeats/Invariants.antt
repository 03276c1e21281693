-- The outer loop's invariant: the list repeats a net just if it does from place i on. The inner one's: the net at i stands behind its place
-- just if it stands from place j on.
use Rattle.nets.proofs.Pairs.{Passed, Compared}
use Rattle.nets.proofs.repeats.repeats.Given as goal

abbrev pub invariant-search : goal.invariant-search
invariant-search l = Passed l.list l.met l.i

abbrev pub invariant-loop-j : goal.invariant-loop-j
invariant-loop-j l = Compared l.list l.i l.met l.j
