use native.Mathlib.Omega.{arith}
use mathlib.Core.Path.{◌∙◌}
use Rattle.call_fault.proofs.Texts.{over-long, not_long}
use borrow.Author.Rules.{rules}
use Rattle.call_fault.proofs.of.Statement.{statement}
use Rattle.call_fault.proofs.of.Tie as tie

none-requires : tie.Need-none-requires
none-requires c κs = search rules

returns : tie.Need-returns-then-text-gt262144
returns c = c.none.ensures ∙ over-long _ _ (omega arith)

of-listed-requires : tie.Need-of_listed-requires
of-listed-requires c κs = search rules

returns-2 : tie.Need-returns
returns-2 c = not_long _ _ (omega arith) c.of_listed.ensures

pub of_spec : {M : Type 1} → statement M
of_spec = tie.close (tie.spec none-requires returns of-listed-requires returns-2)
