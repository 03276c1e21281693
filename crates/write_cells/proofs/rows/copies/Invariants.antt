-- The loop of `rows::copies`: what is laid and what is left make all.
use Rattle.meaning.specs.Layout.{each, occurrence_numbers, number_bytes}
use Rattle.meaning.specs.Alu.{copies}
use Rattle.bytes_out.specs.Laying.{Laying}
use Rattle.write_cells.proofs.Occurrences.{copies_from}
use Rattle.write_cells.proofs.rows.copies.Given as goal

abbrev pub invariant-loop-i : goal.invariant-loop-i
invariant-loop-i l =
    Laying (each number_bytes (each occurrence_numbers (copies l.lines l.net l.count)))
    (each number_bytes (copies_from l.lines l.net l.count l.i))
    l.initial.bytes
    l.initial.at
    l.bytes
    l.at
