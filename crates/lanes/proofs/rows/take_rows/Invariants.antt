-- The rows behind those that are left are packed.
use Rattle.std.proofs.Common.{◌+◌, ◌*◌}
use Rattle.lanes.specs.Lanes.{surely, maybe}
use Rattle.lanes.specs.Groups.{Grouping}
use Rattle.lanes.proofs.rows.take_rows.Given as goal

abbrev pub invariant-loop-row : goal.invariant-loop-row
invariant-loop-row l =
    Grouping surely l.values l.inputs l.from l.count l.row (l.from + l.row * l.inputs) l.initial.low l.low
    × Grouping maybe l.values l.inputs l.from l.count l.row (l.from + l.row * l.inputs) l.initial.high l.high
