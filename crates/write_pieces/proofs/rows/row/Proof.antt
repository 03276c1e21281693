-- `rows::row` meets its contract: the count and the run behind it are the list's numbers. Assumes nothing.
use native.Mathlib.Omega.{arith}
use borrow.Author.Rules.{rules}
use Rattle.laws.specs.Adder.Nets.{length-up_from}
use Rattle.bytes_out.specs.Puts.{put-more}
use Rattle.write_pieces.proofs.rows.row.Statement.{statement}
use Rattle.write_pieces.proofs.rows.row.Tie as tie

run-requires : tie.Need-run-requires
run-requires c κs =
    let args = c.args in
    omega (arith, length-up_from args.first args.count)

returns : tie.Need-returns
returns c =
    let args = c.args in
    rw (length-up_from args.first args.count) (put-more c.copy-list.ensures (omega arith) c.run.ensures)

pub row_spec : {M : Type 1} → statement M
row_spec =
    tie.close (tie.spec (λ c. search rules) (λ c κs. search rules) run-requires (λ c. search rules) returns)
