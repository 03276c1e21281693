-- `of_many` meets its contract: each arm is its rule's case of the definition. Assumes nothing.
use Rattle.std.proofs.Common.{ap, ◌∙◌}
use Rattle.run_walk.specs.Ruling.{ruled}
use Rattle.run_walk.proofs.gate.of_many.Goals as goal

pub returns-in-And : goal.returns-in-And
unfolding ruled
returns-in-And g c = rw c.in-And.is c.folded.ensures

pub returns-in-Nand : goal.returns-in-Nand
unfolding ruled
returns-in-Nand g c = rw c.in-Nand.is (c.not.ensures ∙ ap g.F.Folding.opposite c.folded-in-Nand.ensures)

pub returns-in-Or : goal.returns-in-Or
unfolding ruled
returns-in-Or g c = rw c.in-Or.is c.folded-in-Or.ensures

pub returns-in-Nor : goal.returns-in-Nor
unfolding ruled
returns-in-Nor g c = rw c.in-Nor.is (c.not-in-Nor.ensures ∙ ap g.F.Folding.opposite c.folded-in-Nor.ensures)

pub returns-in-Xor : goal.returns-in-Xor
unfolding ruled
returns-in-Xor g c = rw c.in-Xor.is c.folded-in-Xor.ensures

pub returns-in-Eqv : goal.returns-in-Eqv
unfolding ruled
returns-in-Eqv g c = rw c.in-Eqv.is (c.not-in-Eqv.ensures ∙ ap g.F.Folding.opposite c.folded-in-Eqv.ensures)
