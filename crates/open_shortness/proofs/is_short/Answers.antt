-- Where no weight is above 64, no two bytes could be a number of 512 or more.
use borrow.Author.Tests.{leb-true}
use Rattle.open_shortness.proofs.SmallNumbers.{passed-all}
use Rattle.open_shortness.proofs.is_short.Goals as goal

pub returns : goal.returns
returns c e = passed-all c.loop-i.invariant c.loop-i-test.false (leb-true _ _ e)
