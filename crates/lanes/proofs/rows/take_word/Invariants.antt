-- The rows behind those that are left are packed: all behind a multiple of eight.
use Rattle.std.proofs.Common.{◌*◌, min}
use Rattle.lanes.specs.Lanes.{surely, maybe}
use Rattle.lanes.specs.Wording.{Wording}
use Rattle.lanes.proofs.rows.take_word.Given as goal

abbrev pub invariant-loop-group : goal.invariant-loop-group
invariant-loop-group l =
    Wording surely l.values l.inputs l.from l.count (min l.count (l.group * 8)) l.initial.low l.low
    × Wording maybe l.values l.inputs l.from l.count (min l.count (l.group * 8)) l.initial.high l.high
