use native.Mathlib.Omega.{arith}
use Rattle.text_names.specs.Steps.{stepping-first, steppable, stepping-next, stepping-last}
use Rattle.text_names.proofs.walk.Goals as goal

pub loop-letter-init : goal.loop-letter-init
loop-letter-init c = stepping-first _ _ _ _ c.requires

pub step-node-requires : goal.step-node-requires
step-node-requires c =
    steppable _ _ _ _ c.requires _ _ _ c.loop-letter.letter-index (omega arith) c.loop-letter.invariant

pub grown-all-requires : goal.grown-all-requires
grown-all-requires c =
    (steppable _ _ _ _ c.requires _ _ _ c.loop-letter.letter-index (omega arith) c.loop-letter.invariant).few

pub loop-letter-preserved : goal.loop-letter-preserved
loop-letter-preserved c =
    stepping-next _ _ _ _ c.requires _ _ _ c.loop-letter.letter-index _ _ _ _ (omega arith) c.capital.ensures c.grown-all.ensures
    c.step-node.ensures
    c.loop-letter.invariant

pub shape_of-tree : goal.shape_of-tree
shape_of-tree c = (c.loop-letter.invariant.reached c.requires.book).room

pub returns : goal.returns
returns c = stepping-last _ _ _ _ c.requires _ _ _ c.loop-letter.letter-index (omega arith) c.loop-letter.invariant
