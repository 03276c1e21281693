-- Folding on over the entries that are left gives what folding gives to all.
use Rattle.std.proofs.Common.{[]}
use Rattle.run_wide.specs.Wide.{rows_on, rows_fold}
use Rattle.run_walk.proofs.Reading.{Going}
use Rattle.run_wide.proofs.gate.RowsFolding.folded.Given as goal

abbrev pub invariant-loop-i : goal.invariant-loop-i
invariant-loop-i l = Going [] l.image l.from l.to l.scratch l.i (rows_on l.fold l.v) (rows_fold l.fold)
