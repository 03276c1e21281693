-- A count is always served by short lists, a flattening where both tests are passed.
use native.Mathlib.Omega.{arith}
use borrow.Author.Rules.{rules}
use borrow.Author.Tests.{leb-true}
use Rattle.call_door.proofs.working.in_short.Statement.{statement}
use Rattle.call_door.proofs.working.in_short.Tie as tie

returns : tie.Need-returns-in-Count
returns c _ = rw c.in-Count.is (omega arith)

returns-2 : tie.Need-returns-then-size-le832
returns-2 c e = rw c.in-Flatten.is (c.if-size-le832.true, leb-true _ _ e)

returns-3 : tie.Need-returns-else-size-le832
returns-3 c e =
    absurd (omega (arith, leb-true c.args.site.size 832 e, c.if-size-le832.false))

pub in_short_spec : {M : Type 1} → statement M
in_short_spec = tie.close (tie.spec (λ c. search rules) (λ c. search rules) returns returns-2 returns-3)
