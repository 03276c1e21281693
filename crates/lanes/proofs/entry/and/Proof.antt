-- `lanes::entry::and` meets its contract: word by word.
use mathlib.Core.Path.{refl}
use borrow.Author.Rules.{rules}
use Rattle.lanes.specs.Entries.{and_of}
use Rattle.lanes.proofs.entry.and.Statement.{statement}
use Rattle.lanes.proofs.entry.and.Tie as tie

pub and_spec : {M : Type 1} → statement M
unfolding and_of
and_spec =
    tie.close
    (tie.spec
    (λ c. search rules)
    (λ c. search rules)
    (λ c. search rules)
    (λ c. search rules)
    (λ c. search rules)
    (λ c. search rules)
    (λ c. search rules)
    (λ c. search rules)
    (λ c. search rules)
    (λ c. search rules)
    (λ c. search rules)
    (λ c. search rules)
    (λ c. search rules)
    (λ c. search rules)
    (λ c. search rules)
    (λ c. search rules)
    (λ c. refl))
