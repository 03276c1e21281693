-- The occurrences that are passed are fine.
use Rattle.std.proofs.Common.{drop}
use Rattle.fault_parts.specs.Asked.{Placed}
use Rattle.text_faults.specs.Body.{Body}
use Rattle.text_faults.proofs.Walking.{Walking}
use Rattle.text_faults.proofs.walks.walk.Given as goal

abbrev pub invariant-loop-i : goal.invariant-loop-i
invariant-loop-i l =
    (p : Placed l.file.numbers.now l.file.starts.now l.file.count) (b : Body l.file.numbers.now l.fn.marks l.body l.count)
    → Walking l.file.numbers.now l.marks l.count l.at l.i b.os b.known (drop l.from p.ms)
