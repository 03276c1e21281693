-- `lanes::entry::not` meets its contract: word by word, across.
use mathlib.Core.Path.{refl}
use borrow.Author.Rules.{rules}
use Rattle.lanes.specs.Entries.{not_of}
use Rattle.lanes.proofs.entry.not.Statement.{statement}
use Rattle.lanes.proofs.entry.not.Tie as tie

pub not_spec : {M : Type 1} → statement M
unfolding not_of
not_spec =
    tie.close
    (tie.spec
    (λ c. search rules)
    (λ c. search rules)
    (λ c. search rules)
    (λ c. search rules)
    (λ c. search rules)
    (λ c. search rules)
    (λ c. search rules)
    (λ c. search rules)
    (λ c. refl))
