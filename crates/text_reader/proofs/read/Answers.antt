use native.Mathlib.Omega.{arith}
use mathlib.Core.Path.{◌∙◌}
use Rattle.text_reader.specs.Loop.{blank_of, looping_first, short-reads, whole-reads}
use Rattle.text_reader.proofs.read.Goals as goal

pub enter-count-requires : goal.enter-count-requires
enter-count-requires c = blank_of _ _ _ c.requires

pub loop-i-init : goal.loop-i-init
loop-i-init c =
    rw c.first-state.ensures (looping_first _ _ _ _ _ c.requires c.enter-count.auto.tree c.enter-count.ensures)

pub take-requires : goal.take-requires
take-requires c = record { reading = c.loop-i.invariant.reading; inside = omega arith }

pub loop-i-smaller : goal.loop-i-smaller
loop-i-smaller c = let l : _ = c.in_ok-turn.ensures.further in omega arith

pub loop-i-preserved : goal.loop-i-preserved
loop-i-preserved c =
    record {
      reading = c.in_ok-turn.ensures.on;
      same_numbers = c.take.auto.numbers ∙ c.loop-i.invariant.same_numbers;
      same_tree = c.take.auto.tree ∙ c.loop-i.invariant.same_tree;
    }

pub shape_of-numbers-then-state-lt17 : goal.shape_of-numbers-then-state-lt17
shape_of-numbers-then-state-lt17 c = c.loop-i.invariant.same_numbers

pub shape_of-tree-then-state-lt17 : goal.shape_of-tree-then-state-lt17
shape_of-tree-then-state-lt17 c =
    c.loop-i.invariant.same_tree ∙ c.enter-count.auto.tree

pub returns-then-state-lt17 : goal.returns-then-state-lt17
returns-then-state-lt17 c =
    rw c.at.ensures
    (short-reads _ _ _ _ _ _ _ c.loop-i.invariant (omega arith) (omega arith))

pub shape_of-numbers : goal.shape_of-numbers
shape_of-numbers c = c.loop-i.invariant.same_numbers

pub shape_of-tree : goal.shape_of-tree
shape_of-tree c =
    c.loop-i.invariant.same_tree ∙ c.enter-count.auto.tree

pub returns : goal.returns
returns c = whole-reads _ _ _ _ _ _ _ c.loop-i.invariant (omega arith) (omega arith)
