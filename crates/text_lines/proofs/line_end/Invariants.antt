use Rattle.text_lines.proofs.Walks.{Ahead}
use Rattle.text_lines.proofs.line_end.Given as goal

abbrev pub invariant-loop-i : goal.invariant-loop-i
invariant-loop-i l = Ahead l.text l.from l.i
