-- `shelf_evaluate_rows` hands back the numbers of `evaluate_rows`'s answer, which are the decision's (`run-reports`), and both buffers as `evaluate_rows` leaves them.
use Rattle.shelf_c.proofs.Reporting.{run-reports}
use borrow.Author.Rules.{rules}
use Rattle.shelf_c.proofs.run.shelf_evaluate_rows.Statement.{statement}
use Rattle.shelf_c.proofs.run.shelf_evaluate_rows.Tie as tie

returns : tie.Need-returns
returns c =
    let a = c.evaluate_rows.ensures in
    (run-reports a c.report_run.ensures, (a.settled.answered.out, a.settled.scratched))

pub shelf_evaluate_rows_spec : {M : Type 1} → statement M
shelf_evaluate_rows_spec =
    tie.close (tie.spec (λ c κs. search rules) (λ c κs. search rules) (λ c. search rules) (λ c. search rules) returns)
