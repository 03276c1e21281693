-- `shelf_rewrite` hands back the numbers of `rewrite`'s answer, which are the decision's (`reports`), and the bytes as `rewrite` leaves them.
use Rattle.shelf_c.proofs.Reporting.{reports}
use borrow.Author.Rules.{rules}
use Rattle.shelf_c.proofs.withdrawn.shelf_rewrite.Statement.{statement}
use Rattle.shelf_c.proofs.withdrawn.shelf_rewrite.Tie as tie

returns : tie.Need-returns
returns c =
    let a = c.rewrite in
    (reports a.ensures.is c.report.ensures, a.ensures.out)

pub shelf_rewrite_spec : {M : Type 1} → statement M
shelf_rewrite_spec = tie.close (tie.spec (λ c κs. search rules) (λ c κs. search rules) (λ c. search rules) returns)
