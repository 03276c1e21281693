-- `rows::gate` meets its contract: the six numbers are the occurrence's. Assumes nothing.
use Rattle.std.proofs.Common.{arith}
use Rattle.meaning.specs.Layout.{occurrence_numbers}
use Rattle.write_pieces.proofs.rows.gate.Goals as goal

pub copy-requires : goal.copy-requires
unfolding occurrence_numbers
copy-requires c = omega (arith, c.requires)

pub returns : goal.returns
unfolding occurrence_numbers
returns c = c.copy.ensures
