-- The measure of `write_trees::leaves` is the bits.
use Rattle.meaning.specs.FastAdder.{leaves}
use Rattle.write_trees.specs.Trees.{tree_of}
use Rattle.write_trees.proofs.+leaves.Given as goal

abbrev pub decreases-leaves : goal.decreases-leaves
decreases-leaves l = leaves (tree_of l.tree)
