use borrow.Author.Rules.{rules}
use Rattle.meaning.specs.Work.{running}
use Rattle.laws.specs.Work.{running-writes}
use Rattle.answers.specs.Running.{runs_as}
use Rattle.call_door.proofs.evaluate.Statement.{statement}
use Rattle.call_door.proofs.evaluate.Tie as tie

returns : tie.Need-returns
unfolding running
returns c = runs_as (running-writes _ _ _ _ _) c.answer-sheet.ensures.met

pub evaluate_spec : {M : Type 1} → statement M
evaluate_spec = tie.close (tie.spec (λ c κs. search rules) (λ c κs. search rules) (λ c. search rules) (λ c. search rules) returns)
