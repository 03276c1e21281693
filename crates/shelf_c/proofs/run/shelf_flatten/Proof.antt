-- `shelf_flatten` hands back the numbers of `flatten`'s answer, which are the decision's (`reports`), and both buffers as `flatten` leaves them.
use Rattle.shelf_c.proofs.Reporting.{reports}
use borrow.Author.Rules.{rules}
use Rattle.shelf_c.proofs.run.shelf_flatten.Statement.{statement}
use Rattle.shelf_c.proofs.run.shelf_flatten.Tie as tie

returns : tie.Need-returns
returns c =
    let a = c.flatten in
    (reports a.ensures.answered.is c.report.ensures, (a.ensures.answered.out, a.ensures.scratched))

pub shelf_flatten_spec : {M : Type 1} → statement M
shelf_flatten_spec =
    tie.close (tie.spec (λ c κs. search rules) (λ c κs. search rules) (λ c. search rules) (λ c. search rules) returns)
