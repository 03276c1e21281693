-- What was measured of the module is the work of its run, whatever the values.
use Rattle.std.proofs.Common.{sym, ◌∙◌}
use Rattle.laws.specs.Work.{work-is-size}
use Rattle.answers.specs.Running.{runs-answered}
use Rattle.call_evaluate.proofs.run_at.Goals as goal

pub returns : goal.returns
returns c s = runs-answered _ c.in_ok-written.was (c.evaluate_at.ensures s) (λ _ _. s.size_is ∙ sym (work-is-size s.ms _ _))
