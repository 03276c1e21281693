-- `tally_engine::rows::fill_row` meets its contract: the row is written and then marked. Assumes nothing.
use mathlib.Core.Path.{refl}
use mathlib.Core.Bool.{true, false}
use borrow.Author.Rules.{rules}
use lib.ListN.{length-set}
use lib.Seq.{get_or-set_other}
use Rattle.tally_engine.proofs.KeptRows.{row-filled}
use Rattle.tally_engine.proofs.rows.fill_row.Statement.{statement}
use Rattle.tally_engine.proofs.rows.fill_row.Tie as tie

returns : tie.Need-returns-then-k-filled
returns c =
    let args = c.args in
    row-filled c.write_row.ensures (length-set args.filled.now args.k true)
    (λ j other. get_or-set_other args.filled.now args.k j true false other)

returns-2 : tie.Need-returns-else-k-filled
returns-2 c = row-filled c.write_row.ensures refl (λ j other. refl)

pub fill_row_spec : {M : Type 1} → statement M
fill_row_spec =
    tie.close
    (tie.spec
    (λ c κs. search rules)
    (λ c. search rules)
    (λ c. search rules)
    (λ c. search rules)
    returns
    (λ c. search rules)
    returns-2)
