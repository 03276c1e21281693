-- Each arm is the arm of the definition.
use borrow.Author.Tests.{ne_eqb}
use Rattle.meaning.specs.Filing.{base}
use Rattle.filing.proofs.bases.base_of.Statement.{statement}
use Rattle.filing.proofs.bases.base_of.Tie as tie

returns : tie.Need-returns-in-65
unfolding base
returns c = rw c.in-65.is

returns-2 : tie.Need-returns-in-67
unfolding base
returns-2 c = rw c.in-67.is

returns-3 : tie.Need-returns-in-71
unfolding base
returns-3 c = rw c.in-71.is

returns-4 : tie.Need-returns-in-84
unfolding base
returns-4 c = rw c.in-84.is

returns-5 : tie.Need-returns-in_default
unfolding base
returns-5 c =
    let byte = c.args.byte in
    let others = c.in_default.in_default-own.rest in
    rw (
      ne_eqb byte 65 others.0.0.0.1,
      ne_eqb byte 67 others.0.0.1,
      ne_eqb byte 71 others.0.1,
      ne_eqb byte 84 others.1,
    )

pub base_of_spec : {M : Type 1} → statement M
base_of_spec = tie.close (tie.spec returns returns-2 returns-3 returns-4 returns-5)
