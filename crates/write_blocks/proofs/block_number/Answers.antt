-- `write_blocks::block_number` meets its contract. Assumes nothing.
use Rattle.std.proofs.Common.{sym, arith}
use Rattle.meaning.specs.Counter.{block_number}
use Rattle.write_blocks.specs.BlockNumbers.{number-above}
use Rattle.write_blocks.proofs.block_number.Goals as goal

pub returns-then-level-eq0 : goal.returns-then-level-eq0
unfolding block_number
returns-then-level-eq0 c = rw c.if-level-eq0.true

pub returns-else-level-eq0 : goal.returns-else-level-eq0
returns-else-level-eq0 c = sym (number-above c.args.level (omega arith))
