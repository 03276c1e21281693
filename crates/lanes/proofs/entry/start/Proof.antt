-- `lanes::entry::start` meets its contract: each arm is the beginning of its fold.
use borrow.Author.Rules.{rules}
use Rattle.lanes.proofs.entry.start.Statement.{statement}
use Rattle.lanes.proofs.entry.start.Tie as tie

pub start_spec : {M : Type 1} → statement M
start_spec =
    tie.close
    (tie.spec
    (λ c. search rules)
    (λ c. search rules)
    (λ c. search rules)
    (λ c. rw c.in-All.is)
    (λ c. search rules)
    (λ c. search rules))
