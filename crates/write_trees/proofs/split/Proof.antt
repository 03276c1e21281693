-- `write_trees::split` meets its contract: a tree that is early, or has no height, is a leaf, and any other has the parts that the
-- definition names. Assumes nothing.
use native.Mathlib.Omega.{arith}
use borrow.Author.Rules.{rules}
use Prim.Native.Nat.{◌+◌, ◌≤◌}
use mathlib.Core.Path.{subst}
use Rattle.write_trees.specs.Trees.{Sound}
use Rattle.write_trees.specs.declared.Tree.TheVariants.{Spine}
use Rattle.write_trees.proofs.Shapes.{early-leaf, low-leaf, grown-node, spine-leaf, spine-node}
use Rattle.write_trees.proofs.split.Statement.{statement}
use Rattle.write_trees.proofs.split.Tie as tie

returns : tie.Need-returns-then-late-lt3
returns c = rw c.in-Grown.is (early-leaf _ _ c.if-late-lt3.true)

returns-2 : tie.Need-returns-then-height-eq0
returns-2 c = rw (c.in-Grown.is, c.if-height-eq0.true) (low-leaf _)

returns-3 : tie.Need-returns-then-height-eq0-2
returns-3 c = rw (c.in-Spine.is, c.if-height-eq0-2.true) (spine-leaf _)

-- The step and the height of a spine.
steps : (c : tie.In-Spine) → c.in-Spine.step + c.in-Spine.height ≤ 100
steps c = subst Sound c.in-Spine.is c.requires

returns-4 : tie.Need-returns-else-height-eq0
returns-4 c =
    record {
      is = rw c.in-Grown.is (grown-node _ _ (omega arith) c.if-height-eq0.false);
      low = tt;
      middle = tt;
      high = tt;
    }

returns-5 : tie.Need-returns-else-height-eq0-2
returns-5 c =
    let h = steps c.before in
    record {
      is = rw c.in-Spine.is (spine-node _ _ c.if-height-eq0-2.false);
      low = tt;
      middle = tt;
      high = omega arith;
    }

pub split_spec : {M : Type 1} → statement M
split_spec =
    tie.close
    (tie.spec
    (λ c. search rules)
    returns
    returns-2
    (λ c. search rules)
    (λ c. search rules)
    (λ c. search rules)
    (λ c. search rules)
    (λ c. search rules)
    (λ c. search rules)
    returns-3
    (λ c. omega (arith, steps c.before))
    (λ c. omega (arith, steps c.before))
    (λ c. omega (arith, steps c.before))
    (λ c. omega (arith, steps c.before))
    (λ c. search rules)
    (λ c. omega (arith, steps c.before))
    (λ c. search rules)
    returns-4
    returns-5)
