-- The bytes that were passed stand at the front.
use Rattle.std.proofs.Common.{take, drop}
use Rattle.list_text.specs.Pieces.{PutDown}
use Rattle.row_lines.proofs.spaces.carry.Given as goal

abbrev pub invariant-loop-i : goal.invariant-loop-i
invariant-loop-i l = PutDown (take l.i (drop l.fn.from l.initial.text)) l.initial.text 0 l.text l.i
