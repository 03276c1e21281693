-- The loop of `write_ripple::cells`: the cells that are laid and those that are left make all.
use Rattle.std.proofs.Common.{◌+◌, ◌*◌, ◌≤◌}
use Rattle.meaning.specs.Layout.{each, number_bytes}
use Rattle.laws.specs.Adder.Numbers.{cells_numbers}
use Rattle.bytes_out.specs.Laying.{Laying}
use Rattle.write_ripple.proofs.CellNumbers.{cells_from}
use Rattle.write_ripple.proofs.cells.Given as goal

abbrev pub invariant-loop-i : goal.invariant-loop-i
invariant-loop-i l =
    (l.carry_in ≤ 4 * l.width)
    × Laying (each number_bytes (cells_numbers 1 (l.width + 1) (2 * l.width + 1) (3 * l.width + 1) 0 l.width))
    (each number_bytes (cells_from l.width l.i l.carry_in))
    l.initial.bytes
    l.initial.at
    l.bytes
    l.at
