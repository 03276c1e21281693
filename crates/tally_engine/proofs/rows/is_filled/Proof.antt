-- `tally_engine::rows::is_filled` meets its contract: behind the list nothing is filled. Assumes nothing.
use mathlib.Core.Path.{sym}
use mathlib.Core.Bool.{false}
use borrow.Author.Rules.{rules}
use lib.ListN.{get_or-eq_default}
use Rattle.tally_engine.proofs.rows.is_filled.Statement.{statement}
use Rattle.tally_engine.proofs.rows.is_filled.Tie as tie

returns-2 : tie.Need-returns-else-k-filled
returns-2 c = sym (get_or-eq_default c.args.filled.now false c.if-k-filled.false)

pub is_filled_spec : {M : Type 1} → statement M
is_filled_spec = tie.close (tie.spec (λ c. search rules) (λ c. search rules) returns-2)
