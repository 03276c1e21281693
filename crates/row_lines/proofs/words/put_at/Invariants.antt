-- The values put and those that are left are all of them.
use Rattle.row_lines.proofs.Putting.{Puts}
use Rattle.row_lines.proofs.words.put_at.Given as goal

abbrev pub invariant-loop-byte : goal.invariant-loop-byte
invariant-loop-byte l = Puts l.word l.initial.values l.fn.from l.values l.at l.byte-index
