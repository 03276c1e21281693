-- The loop's invariant: the counts of the kinds passed are added, the others are as they were.
use Rattle.tally_engine.specs.Tallies.{one_of}
use Rattle.tally_engine.proofs.Counts.{Partly}
use Rattle.tally_engine.proofs.Tally.with_gate.Given as goal

abbrev pub invariant-loop-i : goal.invariant-loop-i
invariant-loop-i l = Partly l.initial.self.counts (one_of l.kind) l.i l.self.counts
