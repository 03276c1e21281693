use Rattle.text_reader.specs.Gating.{Gating}
use Rattle.text_reader.proofs.gates.enter_all.Given as goal

abbrev pub invariant-loop-g : goal.invariant-loop-g
invariant-loop-g l = Gating l.initial.tree l.tree l.count l.g
