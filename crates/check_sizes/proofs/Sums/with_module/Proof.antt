-- `sizes::Sums::with_module` meets its contract: the larger of the two rooms is the one that is kept. Assumes nothing.
use borrow.Author.Rules.{rules}
use Rattle.check_sizes.proofs.Sums.with_module.Statement.{statement}
use Rattle.check_sizes.proofs.Sums.with_module.Tie as tie

returns : tie.Need-returns
returns c = rw c.larger.ensures

pub with_module_spec : {M : Type 1} → statement M
with_module_spec =
    tie.close
    (tie.spec
    (λ c. search rules)
    (λ c. search rules)
    (λ c. search rules)
    (λ c. search rules)
    (λ c. search rules)
    (λ c. search rules)
    (λ c κs. search rules)
    returns)
