-- The loop of `rows::copy_of_lines`: what is laid and what is left make all.
use Rattle.meaning.specs.Layout.{each, occurrence_numbers, number_bytes}
use Rattle.meaning.specs.Alu.{copy_row}
use Rattle.bytes_out.specs.Laying.{Laying}
use Rattle.write_cells.proofs.Occurrences.{buffers_from}
use Rattle.write_cells.proofs.rows.copy_of_lines.Given as goal

abbrev pub invariant-loop-i : goal.invariant-loop-i
invariant-loop-i l =
    Laying (each number_bytes (each occurrence_numbers (copy_row l.net l.lines 6)))
    (each number_bytes (buffers_from l.lines l.net 6 l.i))
    l.initial.bytes
    l.initial.at
    l.bytes
    l.at
