-- `listing::list` meets its contract: the names in their order, and then the text. Assumes nothing.
use mathlib.Core.Path.{sym, ◌∙◌}
use borrow.Author.Rules.{rules}
use Rattle.ndl_answer.proofs.Naming.{bad-length, bad-name, good-names}
use Rattle.ndl_answer.proofs.listing.list.Statement.{statement}
use Rattle.ndl_answer.proofs.listing.list.Tie as tie

returns : tie.Need-returns-then-names-ne128
returns c t =
    bad-length c.args.names.now c.args.out.now t.ms c.if-names-ne128.true

returns-2 : tie.Need-returns-then-bad-ne16
returns-2 c t =
    bad-name c.args.names.now c.args.out.now t.ms c.if-names-ne128.false c.first_bad-bad.ensures c.if-bad-ne16.true

returns-3 : tie.Need-returns
returns-3 c t =
    good-names c.args.names.now c.args.out.now t.ms c.if-names-ne128.false (sym c.first_bad-bad.ensures ∙ c.if-bad-ne16.false) (c.tell.ensures t)

pub list_spec : {M : Type 1} → statement M
list_spec = tie.close (tie.spec returns (λ c κs. search rules) returns-2 (λ c κs. search rules) (λ c. search rules) returns-3)
