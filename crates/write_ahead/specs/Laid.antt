-- What the writer of trees and steps rests on, and what it leaves.
use Rattle.std.specs.Prelude.{ℕ, ◌+◌, ◌*◌, ◌≤◌, ◌<◌, ◌≡◌, List}
use Rattle.meaning.specs.FastAdder.{leaves, p_net, ahead, chain, cut}
use Rattle.laws.specs.FastAdder.Counting.{ones, twos}
use Rattle.bytes_out.specs.Filled.{Put}
use Rattle.write_pieces.specs.Rooms.{Room}
use Rattle.write_trees.specs.Trees.{tree_of, Sound}
use Rattle.write_trees.specs.declared.Tree.{Tree}
use Rattle.write_ahead.specs.Carries.{bytes_of}
use Rattle.write_ahead.specs.declared.trees.Laid.{Laid}
use Rattle.write_ahead.specs.declared.chain.Steps.{Steps}

-- A tree from a bit on, within the width, and room for what is inside it.
pub record Layable (n : ℕ) (tree : Tree) (start : ℕ) (list : List ℕ) (at : ℕ) : Type 0 where
  pub narrow : n ≤ 64
  pub sound : Sound tree
  pub within : start + leaves (tree_of tree) ≤ n
  pub room : Room (bytes_of (ahead n (tree_of tree) start)) list at

pub record TreeLaid (n : ℕ) (tree : Tree) (start : ℕ) (before : List ℕ) (at : ℕ) (after : List ℕ) (r : Laid) : Type 0 where
  pub put : Put (bytes_of (ahead n (tree_of tree) start)) before at after r.at
  pub end : r.end ≡ start + leaves (tree_of tree)
  pub net : r.p ≡ p_net n (tree_of tree) start

-- The lowest bits of a tree, from a bit on, within the width, and room for the steps over them.
pub record Chainable (n : ℕ) (tree : Tree) (left start : ℕ) (list : List ℕ) (at : ℕ) : Type 0 where
  pub narrow : n ≤ 64
  pub sound : Sound tree
  pub few : leaves (tree_of tree) ≤ 71
  pub more : left < leaves (tree_of tree)
  pub within : start + left ≤ n
  pub room : Room (bytes_of (chain n (cut left (tree_of tree)) start)) list at

-- The steps are put, and the trees that they go over are counted.
pub record ChainLaid (n : ℕ) (tree : Tree) (left start : ℕ) (before : List ℕ) (at : ℕ) (after : List ℕ) (r : Steps) : Type 0 where
  pub put : Put (bytes_of (chain n (cut left (tree_of tree)) start)) before at after r.at
  pub trees : r.trees ≡ ones (cut left (tree_of tree)) + 2 * twos (cut left (tree_of tree))
