-- The entries before place i are 0, 1, 2 and so on.
use Rattle.meaning.specs.Adder.{up_from}
use Rattle.flat_engine.proofs.Filling.{Filling}
use Rattle.flat_engine.proofs.slots.number_inputs.Given as goal

abbrev pub invariant-loop-i : goal.invariant-loop-i
invariant-loop-i l = Filling l.initial.scratch 0 (up_from 0 l.count) l.i l.scratch
