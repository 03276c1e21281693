-- The lines put and those that are left are all of them.
use Rattle.row_lines.proofs.Texts.{Lays}
use Rattle.row_lines.proofs.digits.put_lines.Given as goal

abbrev pub invariant-loop : goal.invariant-loop
invariant-loop l = Lays l.values l.rows l.outputs l.initial.out l.out l.at l.from l.counter
