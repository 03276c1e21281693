-- `rewrite_bytes::three::two_kind` meets its contract. Assumes nothing.
use borrow.Author.Tests.{ne_eqb}
use Rattle.meaning.specs.Withdrawn.{two_kind}
use Rattle.rewrite_bytes.proofs.three.two_kind.Statement.{statement}
use Rattle.rewrite_bytes.proofs.three.two_kind.Tie as tie

pub two_kind_spec : {M : Type 1} → statement M
unfolding two_kind
two_kind_spec =
    tie.close
    (tie.spec
    (λ c. rw c.if-kind-eq4.true)
    (λ c. rw c.if-kind-eq7.true)
    (λ c. rw c.if-kind-eq12.true)
    (λ c. rw (ne_eqb _ 4 c.if-kind-eq4.false, ne_eqb _ 7 c.if-kind-eq7.false, ne_eqb _ 12 c.if-kind-eq12.false)))
