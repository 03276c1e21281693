-- The loop of `numbers::put_list`: what is laid and the bytes of the numbers left make the bytes of all.
use Rattle.std.proofs.Common.{drop}
use Rattle.meaning.specs.Layout.{each, number_bytes}
use Rattle.bytes_out.specs.Laying.{Laying}
use Rattle.write_pieces.proofs.numbers.put_list.Given as goal

abbrev pub invariant-loop-number : goal.invariant-loop-number
invariant-loop-number l =
    Laying (each number_bytes l.numbers) (each number_bytes (drop l.number-index l.numbers)) l.initial.bytes l.initial.at l.bytes l.at
