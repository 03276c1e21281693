-- `rewrite_counts::fours::is_withdrawn` meets its contract: each of the four numbers by itself, and no other. Assumes nothing.
use borrow.Author.Tests.{ne_eqb}
use Rattle.meaning.specs.Withdrawn.{withdrawn}
use Rattle.rewrite_counts.proofs.fours.is_withdrawn.Statement.{statement}
use Rattle.rewrite_counts.proofs.fours.is_withdrawn.Tie as tie

pub is_withdrawn_spec : {M : Type 1} → statement M
unfolding withdrawn
is_withdrawn_spec =
    tie.close
    (tie.spec
    (λ c. rw c.if-number-eq4.true)
    (λ c. rw c.if-number-eq7.true)
    (λ c. rw c.if-number-eq12.true)
    (λ c. rw (ne_eqb _ 4 c.if-number-eq4.false, ne_eqb _ 7 c.if-number-eq7.false, ne_eqb _ 12 c.if-number-eq12.false)))
