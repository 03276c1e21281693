use borrow.Author.Rules.{rules}
use Rattle.meaning.specs.Calls.{flattening}
use Rattle.call_door.proofs.flatten.Statement.{statement}
use Rattle.call_door.proofs.flatten.Tie as tie

returns : tie.Need-returns
unfolding flattening
returns c = c.answer-sheet.ensures.met

pub flatten_spec : {M : Type 1} → statement M
flatten_spec = tie.close (tie.spec (λ c κs. search rules) (λ c κs. search rules) (λ c. search rules) (λ c. search rules) returns)
