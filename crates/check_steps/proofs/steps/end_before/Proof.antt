-- `check_steps::steps::end_before` meets its contract: the test is the definition's. Assumes nothing.
use borrow.Author.Rules.{rules}
use borrow.Author.Tests.{lt-ltb, le-ltb}
use Rattle.check_steps.proofs.steps.end_before.Statement.{statement}
use Rattle.check_steps.proofs.steps.end_before.Tie as tie

returns : tie.Need-returns-then-k-modules
returns c = let a = c.args in rw (lt-ltb a.k a.modules c.if-k-modules.true)

returns-2 : tie.Need-returns-else-k-modules
returns-2 c = let a = c.args in rw (le-ltb a.k a.modules c.if-k-modules.false)

pub end_before_spec : {M : Type 1} → statement M
end_before_spec = tie.close (tie.spec (λ c. search rules) (λ c. search rules) returns returns-2)
