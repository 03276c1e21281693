-- What folds and negations of values give is what the rule gives.
use Rattle.std.proofs.Common.{◌∙◌}
use Rattle.run_walk.specs.Ruling.{ruled-values}
use Rattle.run_walk.proofs.gate.result.Goals as goal

pub returns : goal.returns
returns c = c.of_many.ensures ∙ ruled-values c.args.rule _
