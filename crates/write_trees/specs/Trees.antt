-- The trees of `meaning` that the writer names, and what their parts are.
use Rattle.std.specs.Prelude.{ℕ, ◌+◌, ◌≤◌, ◌≡◌}
use Rattle.meaning.specs.FastAdder.{Tree, leaf, node, grown, spine}
use Rattle.write_trees.specs.declared.Tree.{Tree as Named}
use Rattle.write_trees.specs.declared.Tree.TheVariants.{Grown, Spine}
use Rattle.write_trees.specs.declared.Parts.{Parts}
use Rattle.write_trees.specs.declared.Parts.TheVariants.{Leaf, Node}

abbrev pub tree_of : Named → Tree
tree_of (Grown late height) = grown late height
tree_of (Spine step height) = spine step height

-- Of a spine the steps stay small: each part is a height lower.
abbrev pub Sound : Named → Type 0
Sound (Grown late height) = Unit
Sound (Spine step height) = step + height ≤ 100

-- The three parts of a node.
pub record Joined (tree x y z : Named) : Type 0 where
  pub is : tree_of tree ≡ node (tree_of x) (tree_of y) (tree_of z)
  pub low : Sound x
  pub middle : Sound y
  pub high : Sound z

abbrev pub Parted : Named → Parts → Type 0
Parted tree Leaf = tree_of tree ≡ leaf
Parted tree (Node x y z) = Joined tree x y z
