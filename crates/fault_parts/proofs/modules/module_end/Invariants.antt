-- The occurrences that are left stand from the place on.
use Rattle.std.proofs.Common.{◌+◌, ◌-◌, length}
use Rattle.meaning.specs.Syntax.{Module}
use Rattle.meaning.specs.Layout.{module_numbers}
use Rattle.image.specs.Stands.{Stands}
use Rattle.fault_parts.proofs.Placing.{Ahead}
use Rattle.fault_parts.proofs.modules.module_end.Given as goal

abbrev pub invariant-loop : goal.invariant-loop
invariant-loop l =
    (m : Module) → Stands l.numbers l.from (module_numbers m) → Ahead l.numbers l.at (l.end - l.counter) (l.from + length (module_numbers m))
