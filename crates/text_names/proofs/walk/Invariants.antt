use Rattle.text_names.specs.Steps.{Stepping}
use Rattle.text_names.proofs.walk.Given as goal

-- The letters that are passed are reached.
abbrev pub invariant-loop-letter : goal.invariant-loop-letter
invariant-loop-letter l = Stepping l.name l.initial.tree l.root l.count l.tree l.node l.all l.letter-index
