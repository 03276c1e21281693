use Rattle.std.proofs.Common.{◌-◌}
use Rattle.meaning.specs.Reading.{read_occurrence}
use Rattle.read_parts.specs.Turns.{Turning}
use Rattle.read_parts.proofs.parts.keep_occurrences.Given as goal

-- The way of what is left is the way of all.
abbrev pub invariant-loop : goal.invariant-loop
invariant-loop l =
    Turning read_occurrence l.bytes l.initial.spot l.count l.initial.numbers (l.count - l.counter) l.spot l.numbers
