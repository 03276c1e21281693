-- The rows taken and what the lines behind them come to are the whole block.
use Rattle.row_lines.proofs.Taking.{Taking}
use Rattle.row_lines.proofs.lines.take_rows.Given as goal

abbrev pub invariant-loop-rows : goal.invariant-loop-rows
invariant-loop-rows l = Taking l.fn.most l.inputs l.text l.initial.values l.values l.rows l.given l.next
