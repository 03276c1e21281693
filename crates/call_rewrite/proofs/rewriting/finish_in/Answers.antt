-- The list has as many bytes as the function's parameter says.
use Rattle.std.proofs.Common.{ℕ}
use lib.ListN.{length-replicate}
use Rattle.call_rewrite.proofs.rewriting.finish_in.Goals as goal

pub finish-requires : goal.finish-requires
finish-requires g c = rw (length-replicate {A = ℕ} g.row.BYTES 0) c.requires.rewritable

pub returns : goal.returns
returns g c s = let ends = rw (length-replicate {A = ℕ} g.row.BYTES 0) at c.finish.ensures in ends s
