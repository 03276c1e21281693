-- The buffer is as long as the file, so that it is the file.
use Rattle.std.proofs.Common.{replicate, refl}
use Rattle.filing.proofs.Calling.{file-written}
use Rattle.filing.proofs.counter.counter_file.Goals as goal

pub returns : goal.returns
returns c = file-written (replicate 478 0) _ refl c.counter.ensures.out
