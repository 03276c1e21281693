-- `shelf_write_ndl` hands back the numbers of `write_ndl`'s answer, which are the decision's (`reports`), and the text as `write_ndl` leaves it.
use Rattle.shelf_c.proofs.Reporting.{reports}
use borrow.Author.Rules.{rules}
use Rattle.shelf_c.proofs.listed.shelf_write_ndl.Statement.{statement}
use Rattle.shelf_c.proofs.listed.shelf_write_ndl.Tie as tie

returns : tie.Need-returns
returns c =
    let a = c.write_ndl in
    (reports a.ensures.is c.report.ensures, a.ensures.out)

pub shelf_write_ndl_spec : {M : Type 1} → statement M
shelf_write_ndl_spec = tie.close (tie.spec (λ c κs. search rules) (λ c κs. search rules) (λ c. search rules) returns)
