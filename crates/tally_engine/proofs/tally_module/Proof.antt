-- `tally_engine::tally_module` meets its contract: at first nothing is kept. Assumes nothing.
use borrow.Author.Rules.{rules}
use Rattle.tally_engine.proofs.KeptRows.{none-tallied}
use Rattle.tally_engine.proofs.tally_module.Statement.{statement}
use Rattle.tally_engine.proofs.tally_module.Tie as tie

tally-once-requires : tie.Need-tally_once-requires
tally-once-requires c κs = none-tallied c.requires

returns : tie.Need-returns
returns c s = (c.tally_once.ensures (none-tallied s)).is

pub tally_module_spec : {M : Type 1} → statement M
tally_module_spec = tie.close (tie.spec (λ c. search rules) (λ c. search rules) tally-once-requires returns)
