-- The loop of `write_trees::height`: the heights passed are too low.
use Rattle.write_trees.proofs.Heights.{Searching}
use Rattle.write_trees.proofs.height.Given as goal

abbrev pub invariant-loop-height : goal.invariant-loop-height
invariant-loop-height l = Searching l.width l.height
