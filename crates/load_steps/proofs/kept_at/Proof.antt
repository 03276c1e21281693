-- `load_steps::kept_at` meets its contract: behind the list nothing is kept. Assumes nothing.
use mathlib.Core.Path.{sym}
use borrow.Author.Rules.{rules}
use lib.ListN.{get_or-eq_default}
use Rattle.load_steps.proofs.kept_at.Statement.{statement}
use Rattle.load_steps.proofs.kept_at.Tie as tie

returns-2 : tie.Need-returns-else-k-known
returns-2 c = sym (get_or-eq_default c.args.known.now 0 c.if-k-known.false)

pub kept_at_spec : {M : Type 1} → statement M
kept_at_spec = tie.close (tie.spec (λ c. search rules) (λ c. search rules) (λ c. search rules) returns-2)
