-- The measure of `chain::chain` is the tree's bits.
use Rattle.meaning.specs.FastAdder.{leaves}
use Rattle.write_trees.specs.Trees.{tree_of}
use Rattle.write_ahead.proofs.chain.+chain.Given as goal

abbrev pub decreases-chain : goal.decreases-chain
decreases-chain l = leaves (tree_of l.tree)
