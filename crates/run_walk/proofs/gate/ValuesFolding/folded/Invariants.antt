-- Folding on over the values that are left gives what folding gives to all. It holds behind the first value, since what a fold begins with
-- changes no value.
use Rattle.std.proofs.Common.{◌≤◌, map}
use Rattle.meaning.specs.Values.{value}
use Rattle.gates.specs.Folds.{fold_on, folded}
use Rattle.run_walk.proofs.Reading.{Going}
use Rattle.run_walk.proofs.gate.ValuesFolding.folded.Given as goal

abbrev pub invariant-loop-i : goal.invariant-loop-i
invariant-loop-i l =
    (l.v ≤ 2) × Going 0 l.image l.from l.to l.scratch l.i (λ xs. fold_on l.fold (value l.v) (map value xs)) (λ xs. folded l.fold (map value xs))
