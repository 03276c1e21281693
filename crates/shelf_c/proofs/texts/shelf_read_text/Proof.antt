-- `shelf_read_text` hands back the numbers of `read_text`'s answer, which are the decision's (`reports`), and the bytes as `read_text` leaves them.
use Rattle.shelf_c.proofs.Reporting.{reports}
use borrow.Author.Rules.{rules}
use Rattle.shelf_c.proofs.texts.shelf_read_text.Statement.{statement}
use Rattle.shelf_c.proofs.texts.shelf_read_text.Tie as tie

returns : tie.Need-returns
returns c =
    let a = c.read_text in
    (reports a.ensures.is c.report.ensures, a.ensures.out)

pub shelf_read_text_spec : {M : Type 1} → statement M
shelf_read_text_spec = tie.close (tie.spec (λ c κs. search rules) (λ c κs. search rules) (λ c. search rules) returns)
