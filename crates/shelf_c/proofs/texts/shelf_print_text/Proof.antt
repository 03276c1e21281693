-- `shelf_print_text` hands back the numbers of `print_text`'s answer, which are the decision's (`reports`), and the bytes as `print_text` leaves them.
use Rattle.shelf_c.proofs.Reporting.{reports}
use borrow.Author.Rules.{rules}
use Rattle.shelf_c.proofs.texts.shelf_print_text.Statement.{statement}
use Rattle.shelf_c.proofs.texts.shelf_print_text.Tie as tie

returns : tie.Need-returns
returns c =
    let a = c.print_text in
    (reports a.ensures.is c.report.ensures, a.ensures.out)

pub shelf_print_text_spec : {M : Type 1} → statement M
shelf_print_text_spec = tie.close (tie.spec (λ c κs. search rules) (λ c κs. search rules) (λ c. search rules) returns)
