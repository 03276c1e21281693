-- `shelf_alu` hands back the numbers of `alu`'s answer, which are the decision's (`reports`), and the bytes as `alu` leaves them.
use Rattle.shelf_c.proofs.Reporting.{reports}
use borrow.Author.Rules.{rules}
use Rattle.shelf_c.proofs.written.shelf_alu.Statement.{statement}
use Rattle.shelf_c.proofs.written.shelf_alu.Tie as tie

returns : tie.Need-returns
returns c =
    let a = c.alu in
    (reports a.ensures.is c.report.ensures, a.ensures.out)

pub shelf_alu_spec : {M : Type 1} → statement M
shelf_alu_spec = tie.close (tie.spec (λ c κs. search rules) (λ c κs. search rules) (λ c. search rules) returns)
