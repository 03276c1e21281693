-- `gates::folds::coded` meets its contract: what is below 2 is its own code, and all else stands for the unknown value.
use mathlib.Core.Path.{sym}
use native.Mathlib.Omega.{arith}
use borrow.Author.Tests.{ne_eqb}
use Rattle.gates.specs.ThreeValues.{code-of-value}
use Rattle.gates.proofs.folds.coded.Statement.{statement}
use Rattle.gates.proofs.folds.coded.Tie as tie

returns : tie.Need-returns-then-b-lt-UNKNOWN
returns c = sym (code-of-value _ (omega (arith, c.if-b-lt-UNKNOWN.true)))

returns-2 : tie.Need-returns-else-b-lt-UNKNOWN
returns-2 c =
    let b = c.args.b in
    simp (ne_eqb b 0 (λ e. omega (arith, c.if-b-lt-UNKNOWN.false)), ne_eqb b 1 (λ e. omega (arith, c.if-b-lt-UNKNOWN.false)))

pub coded_spec : {M : Type 1} → statement M
coded_spec = tie.close (tie.spec returns returns-2)
