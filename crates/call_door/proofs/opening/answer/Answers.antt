-- Long lists serve for any file, and short ones for a short file.
use Rattle.read_parts.specs.Exact.{bytes-all}
use Rattle.open_file.specs.Spaces.{short-space, any-space}
use Rattle.call_door.proofs.opening.answer.Goals as goal

pub ask_in-requires-clause-clear : goal.ask_in-requires-clause-clear
ask_in-requires-clause-clear c = any-space _ (bytes-all _ (λ i. (c.type_inv.file i).fits))

pub ask_in-requires-then-is_short-clause-clear : goal.ask_in-requires-then-is_short-clause-clear
ask_in-requires-then-is_short-clause-clear c = short-space _ (c.is_short.ensures c.if-is_short.true)

pub ask_in-requires-else-is_short-clause-clear : goal.ask_in-requires-else-is_short-clause-clear
ask_in-requires-else-is_short-clause-clear c = any-space _ (bytes-all _ (λ i. (c.type_inv.file i).fits))
