-- None of the modules that are passed has the number.
use Rattle.fault_parts.specs.Asked.{Placed}
use Rattle.fault_parts.proofs.Seeking.{Seeking}
use Rattle.fault_parts.proofs.modules.find.Given as goal

abbrev pub invariant-loop-j : goal.invariant-loop-j
invariant-loop-j l = (p : Placed l.file.numbers.now l.file.starts.now l.file.count) → Seeking p l.from l.number l.j
