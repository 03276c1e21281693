-- The answer is the joined file's.
use Rattle.join_ending.proofs.Delivers.{joins_writing}
use Rattle.join_ending.proofs.assemble.Goals as goal

pub returns : goal.returns
returns c a = joins_writing (c.join_whole.ensures a) c.of_joined.ensures
