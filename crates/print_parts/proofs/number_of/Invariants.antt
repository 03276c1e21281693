-- A number of at most 65,535 and one digit more are far below the ceiling of the type.
use Rattle.std.proofs.Common.{◌≤◌}
use Rattle.print_parts.proofs.number_of.Given as goal

abbrev pub invariant-loop-byte : goal.invariant-loop-byte
invariant-loop-byte l = l.number ≤ 655605
