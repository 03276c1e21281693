-- `tally_engine::rows::write_row` meets its contract: behind the rows nothing is written. Assumes nothing.
use mathlib.Core.Path.{◌≡◌}
use native.Mathlib.Omega.{arith}
use borrow.Author.Rules.{rules}
use lib.ListN.{length}
use Rattle.tally_engine.proofs.KeptRows.{row_written, none-written-behind}
use Rattle.tally_engine.proofs.rows.write_row.Statement.{statement}
use Rattle.tally_engine.proofs.rows.write_row.Tie as tie

sixteen : (c : tie.Start) → length c.args.tally.counts ≡ 16
sixteen c = search rules

copy-requires : tie.Need-copy-requires
copy-requires c κs = (omega (arith, sixteen c.before.before.before.before.before), omega arith)

returns : tie.Need-returns-then-k-count
returns c =
    rw c.copy.ensures (row_written _ _ _ _ c.if-k-count.true c.requires (sixteen c.before.before.before.before.before.before.before.before))

returns-2 : tie.Need-returns-else-k-count
returns-2 c = none-written-behind _ _ _ _ c.if-k-count.false

pub write_row_spec : {M : Type 1} → statement M
write_row_spec = tie.close (tie.spec (λ c. search rules) (λ c. search rules) copy-requires (λ c. search rules) returns returns-2)
