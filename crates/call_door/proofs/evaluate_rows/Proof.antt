use borrow.Author.Rules.{rules}
use Rattle.meaning.specs.Work.{rows_running}
use Rattle.laws.specs.Work.{rows-running-writes}
use Rattle.answers.specs.Running.{runs_as}
use Rattle.call_door.proofs.evaluate_rows.Statement.{statement}
use Rattle.call_door.proofs.evaluate_rows.Tie as tie

returns : tie.Need-returns
unfolding rows_running
returns c = runs_as (rows-running-writes _ _ _ _ _ _) c.answer-sheet.ensures.met

pub evaluate_rows_spec : {M : Type 1} → statement M
evaluate_rows_spec = tie.close (tie.spec (λ c κs. search rules) (λ c κs. search rules) (λ c. search rules) (λ c. search rules) returns)
