-- `call_rows::values::first_above` meets its contract: the largest value decides, or else the search.
use borrow.Author.Rules.{rules}
use mathlib.Core.Path.{sym, ◌∙◌}
use Rattle.call_rows.proofs.LargestDecides.{largest-decides}
use Rattle.call_rows.proofs.values.first_above.Statement.{statement}
use Rattle.call_rows.proofs.values.first_above.Tie as tie

returns : tie.Need-returns-then-first_above-eq1
returns c =
    sym (largest-decides c.args.values.now c.largest.ensures (sym c.first_above.ensures ∙ c.if-first_above-eq1.true))

pub first_above_spec : {M : Type 1} → statement M
first_above_spec =
    tie.close
    (tie.spec
    (λ c κs. search rules)
    (λ c. search rules)
    (λ c κs. search rules)
    returns
    (λ c κs. search rules)
    (λ c. search rules))
