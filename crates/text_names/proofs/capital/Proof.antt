use native.Mathlib.Omega.{arith}
use mathlib.Core.Path.{sym}
use Rattle.text_names.specs.Capitals.{capital-under, capital-over, capital-lower}
use borrow.Author.Rules.{rules}
use Rattle.text_names.proofs.capital.Statement.{statement}
use Rattle.text_names.proofs.capital.Tie as tie

-- src/lib.rt:16:9
returns : tie.Need-returns-then-b-lt97
returns c = sym (capital-under c.args.b (omega arith))

-- src/lib.rt:19:9
returns-2 : tie.Need-returns-then-b-gt122
returns-2 c = sym (capital-over c.args.b (omega arith))

-- src/lib.rt:21:5
sub-result : tie.Need-overflow_sub-result
sub-result c = search rules

-- src/lib.rt:12:1
returns-3 : tie.Need-returns
returns-3 c = sym (capital-lower c.args.b (omega arith) (omega arith))

pub capital_spec : {M : Type 1} → statement M
capital_spec = tie.close (tie.spec returns returns-2 sub-result returns-3)
