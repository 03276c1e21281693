-- The measure of `trees::ahead` is the tree's bits.
use Rattle.meaning.specs.FastAdder.{leaves}
use Rattle.write_trees.specs.Trees.{tree_of}
use Rattle.write_ahead.proofs.trees.+ahead.Given as goal

abbrev pub decreases-ahead : goal.decreases-ahead
decreases-ahead l = leaves (tree_of l.tree)
