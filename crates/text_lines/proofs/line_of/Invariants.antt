use Prim.Native.Nat.{◌≤◌}
use Rattle.text_lines.proofs.Walks.{Counted}
use Rattle.text_lines.proofs.line_of.Given as goal

abbrev pub invariant-loop-i : goal.invariant-loop-i
invariant-loop-i l = (l.i ≤ l.stop) × Counted l.text l.i l.above l.left
