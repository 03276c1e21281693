-- The loop of `numbers::put_run`: what is laid and the bytes of the numbers left make the bytes of all.
use Rattle.std.proofs.Common.{◌+◌, ◌-◌}
use Rattle.meaning.specs.Layout.{each, number_bytes}
use Rattle.meaning.specs.Adder.{up_from}
use Rattle.bytes_out.specs.Laying.{Laying}
use Rattle.write_pieces.proofs.numbers.put_run.Given as goal

abbrev pub invariant-loop-i : goal.invariant-loop-i
invariant-loop-i l =
    Laying (each number_bytes (up_from l.first l.count))
    (each number_bytes (up_from (l.first + l.i) (l.count - l.i)))
    l.initial.bytes
    l.initial.at
    l.bytes
    l.at
