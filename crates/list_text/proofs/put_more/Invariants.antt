-- The words of the numbers that were passed stand in a row.
use Rattle.list_text.specs.Rows.{word}
use Rattle.list_text.proofs.Rows.{Row}
use Rattle.list_text.proofs.put_more.Given as goal

abbrev pub invariant-loop-number : goal.invariant-loop-number
invariant-loop-number l = Row word l.numbers l.initial.out l.fn.from l.out l.at l.number-index
