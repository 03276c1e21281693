-- A file that goes the short way is short, and the long way serves for any.
use Rattle.read_parts.specs.Exact.{bytes-all}
use Rattle.open_file.specs.Spaces.{short-space, any-space}
use Rattle.call_rewrite.proofs.rewriting.rewrite.Goals as goal

pub rewrite_in-requires-clause-clear : goal.rewrite_in-requires-clause-clear
rewrite_in-requires-clause-clear c = any-space _ (bytes-all _ (λ i. (c.type_inv.file i).fits))

pub rewrite_in-requires-then-is_short-clause-clear : goal.rewrite_in-requires-then-is_short-clause-clear
rewrite_in-requires-then-is_short-clause-clear c = short-space _ (c.is_short.ensures c.if-is_short.true)

pub rewrite_in-requires-else-is_short-clause-clear : goal.rewrite_in-requires-else-is_short-clause-clear
rewrite_in-requires-else-is_short-clause-clear c = any-space _ (bytes-all _ (λ i. (c.type_inv.file i).fits))
