use borrow.Author.Tests.{eq-eqb, ne_eqb}
use Rattle.text_reader.proofs.turns.close.Goals as goal

pub returns-then-state-eq16 : goal.returns-then-state-eq16
returns-then-state-eq16 c = rw (eq-eqb _ 16 c.if-state-eq16.true)

pub returns : goal.returns
returns c = rw (ne_eqb _ 16 c.if-state-eq16.false)
