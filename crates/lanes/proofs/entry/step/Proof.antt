-- `lanes::entry::step` meets its contract: each arm is the operation of its fold.
use borrow.Author.Rules.{rules}
use Rattle.lanes.proofs.entry.step.Statement.{statement}
use Rattle.lanes.proofs.entry.step.Tie as tie

pub step_spec : {M : Type 1} → statement M
step_spec =
    tie.close
    (tie.spec
    (λ c. search rules)
    (λ c κs. search rules)
    (λ c. search rules)
    (λ c κs. search rules)
    (λ c. search rules)
    (λ c κs. search rules)
    (λ c. rw c.in-All.is c.and.ensures)
    (λ c. rw c.in-Any.is c.or.ensures)
    (λ c. rw c.in-Odd.is c.xor.ensures))
