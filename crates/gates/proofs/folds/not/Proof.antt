-- `gates::folds::not` meets its contract: an odd number of 1 and a value is what its negation is.
use mathlib.Core.Path.{◌≡◌, refl, ap, ◌∙◌}
use borrow.Author.Rules.{rules}
use Rattle.meaning.specs.Values.{Val, by_fillings, known, code, value}
use mathlib.Core.Bool.{true}
use Rattle.gates.specs.Folds.{step, negation}
use Rattle.gates.specs.ThreeValues.{each}
use Rattle.gates.specs.declared.folds.Fold.TheVariants.{Odd}
use Rattle.gates.proofs.folds.not.Statement.{statement}
use Rattle.gates.proofs.folds.not.Tie as tie

one-and : (v : Val) → step Odd (known true) v ≡ negation v
unfolding step negation by_fillings
one-and = each (λ v. step Odd (known true) v ≡ negation v) (refl, refl, refl)

pub not_spec : {M : Type 1} → statement M
not_spec = tie.close (tie.spec (λ c κs. search rules) (λ c. c.step.ensures ∙ ap code (one-and (value c.args.a))))
