-- The nets that are passed are marked.
use Rattle.std.proofs.Common.{ℕ, List}
use Rattle.fault_parts.specs.Asked.{Marked}
use Rattle.fault_parts.proofs.Marking.{Going}
use Rattle.fault_parts.proofs.marks.mark_all.Given as goal

abbrev pub invariant-loop-net : goal.invariant-loop-net
invariant-loop-net l = (known : List ℕ) → Marked l.fn.marks known → Going l.list known l.marks l.net-index
