-- The loop of `rows::gate_row`: the gates that are laid and those that are left make the row.
use Rattle.meaning.specs.Layout.{each, occurrence_numbers, number_bytes}
use Rattle.meaning.specs.FastAdder.{gate_row}
use Rattle.bytes_out.specs.Laying.{Laying}
use Rattle.write_fast.proofs.RowNumbers.{row_from}
use Rattle.write_fast.proofs.rows.gate_row.Given as goal

abbrev pub invariant-loop-i : goal.invariant-loop-i
invariant-loop-i l =
    Laying (each number_bytes (each occurrence_numbers (gate_row l.kind l.net l.a l.b l.count)))
    (each number_bytes (row_from l.kind l.net l.a l.b l.count l.i))
    l.initial.bytes
    l.initial.at
    l.bytes
    l.at
