-- The nets that are passed were new, and are marked.
use Rattle.std.proofs.Common.{ℕ, List}
use Rattle.fault_parts.specs.Asked.{Marked}
use Rattle.fault_parts.proofs.Marking.{Learning}
use Rattle.fault_parts.proofs.marks.learn.Given as goal

abbrev pub invariant-loop-i : goal.invariant-loop-i
invariant-loop-i l = (known : List ℕ) → Marked l.fn.marks known → Learning l.list known l.marks l.i
