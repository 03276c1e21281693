-- Behind the count the nets at the slots before the i-th are written.
use Rattle.bytes_out.specs.Writing.{Writing}
use Rattle.flat_bytes.specs.Slots.{nets_at}
use Rattle.flat_bytes.proofs.slots.put.Given as goal

abbrev pub invariant-loop-i : goal.invariant-loop-i
invariant-loop-i l = Writing (nets_at l.image l.from l.to l.scratch) l.initial.bytes l.initial.end l.bytes l.end l.i
