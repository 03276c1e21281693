-- `tally_engine::rows::row_at` meets its contract: sixteen counts are copied out of the row. Assumes nothing.
use mathlib.Core.Path.{◌∙◌}
use mathlib.Core.List.{append-nil}
use borrow.Author.Rules.{rules}
use Rattle.tally_engine.proofs.rows.row_at.Statement.{statement}
use Rattle.tally_engine.proofs.rows.row_at.Tie as tie

returns : tie.Need-returns
returns c = c.copy.ensures ∙ append-nil _

pub row_at_spec : {M : Type 1} → statement M
row_at_spec = tie.close (tie.spec (λ c. search rules) (λ c. search rules) (λ c κs. search rules) returns)
