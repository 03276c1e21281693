-- `shelf_fast_adder` hands back the numbers of `fast_adder`'s answer, which are the decision's (`reports`), and the bytes as `fast_adder` leaves them.
use Rattle.shelf_c.proofs.Reporting.{reports}
use borrow.Author.Rules.{rules}
use Rattle.shelf_c.proofs.written.shelf_fast_adder.Statement.{statement}
use Rattle.shelf_c.proofs.written.shelf_fast_adder.Tie as tie

returns : tie.Need-returns
returns c =
    let a = c.fast_adder in
    (reports a.ensures.is c.report.ensures, a.ensures.out)

pub shelf_fast_adder_spec : {M : Type 1} → statement M
shelf_fast_adder_spec = tie.close (tie.spec (λ c κs. search rules) (λ c κs. search rules) (λ c. search rules) returns)
