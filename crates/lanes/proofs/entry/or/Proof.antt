-- `lanes::entry::or` meets its contract: word by word.
use mathlib.Core.Path.{refl}
use borrow.Author.Rules.{rules}
use Rattle.lanes.specs.Entries.{or_of}
use Rattle.lanes.proofs.entry.or.Statement.{statement}
use Rattle.lanes.proofs.entry.or.Tie as tie

pub or_spec : {M : Type 1} → statement M
unfolding or_of
or_spec =
    tie.close
    (tie.spec
    (λ c. search rules)
    (λ c. search rules)
    (λ c. search rules)
    (λ c. search rules)
    (λ c. search rules)
    (λ c. search rules)
    (λ c. search rules)
    (λ c. search rules)
    (λ c. search rules)
    (λ c. search rules)
    (λ c. search rules)
    (λ c. search rules)
    (λ c. search rules)
    (λ c. search rules)
    (λ c. search rules)
    (λ c. search rules)
    (λ c. refl))
