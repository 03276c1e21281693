-- The digits of the values that were passed stand in a row.
use Rattle.std.proofs.Common.{◌≡◌, ◌+◌}
use Rattle.list_text.proofs.Rows.{Row}
use Rattle.row_lines.specs.Digits.{digit}
use Rattle.row_lines.proofs.digits.put_line.Given as goal

abbrev pub invariant-loop-value : goal.invariant-loop-value
invariant-loop-value l = (l.at ≡ l.fn.from + l.value-index) × Row digit l.row l.initial.out l.fn.from l.out l.at l.value-index
