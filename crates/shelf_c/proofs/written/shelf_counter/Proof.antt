-- `shelf_counter` hands back the numbers of `counter`'s answer, which are the decision's (`reports`), and the bytes as `counter` leaves them.
use Rattle.shelf_c.proofs.Reporting.{reports}
use borrow.Author.Rules.{rules}
use Rattle.shelf_c.proofs.written.shelf_counter.Statement.{statement}
use Rattle.shelf_c.proofs.written.shelf_counter.Tie as tie

returns : tie.Need-returns
returns c =
    let a = c.counter in
    (reports a.ensures.is c.report.ensures, a.ensures.out)

pub shelf_counter_spec : {M : Type 1} → statement M
shelf_counter_spec = tie.close (tie.spec (λ c κs. search rules) (λ c κs. search rules) (λ c. search rules) returns)
