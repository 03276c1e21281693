-- What folds and negations of entries give is what the rule gives.
use Rattle.std.proofs.Common.{◌∙◌}
use Rattle.run_wide.specs.Wide.{ruled-rows}
use Rattle.run_wide.proofs.gate.RowsWork.at_gate.Goals as goal

pub returns : goal.returns
returns c number = c.of_many.ensures ∙ ruled-rows c.args.rule _
