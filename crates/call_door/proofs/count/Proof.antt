use borrow.Author.Rules.{rules}
use Rattle.meaning.specs.Family.{summary}
use Rattle.call_door.proofs.count.Statement.{statement}
use Rattle.call_door.proofs.count.Tie as tie

returns : tie.Need-returns
unfolding summary
returns c = c.answer-sheet.ensures.met

pub count_spec : {M : Type 1} → statement M
count_spec = tie.close (tie.spec (λ c. search rules) (λ c κs. search rules) (λ c. search rules) returns)
