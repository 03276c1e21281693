-- `carries::over_two` meets its contract: the nine numbers are the occurrence's. Assumes nothing.
use native.Mathlib.Omega.{arith}
use borrow.Author.Rules.{rules}
use Rattle.meaning.specs.Layout.{occurrence_numbers}
use Rattle.write_ahead.proofs.Smalls.{all_small}
use Rattle.write_ahead.proofs.carries.over_two.Statement.{statement}
use Rattle.write_ahead.proofs.carries.over_two.Tie as tie

put-list-requires : tie.Need-put_list-requires
unfolding occurrence_numbers
put-list-requires c κs =
    let p = c.requires in
    (all_small _ (omega arith, (omega arith, (omega arith, (omega arith, (omega arith, (omega arith, (omega arith, (omega arith, (omega arith, tt))))))))), p.5)

returns : tie.Need-returns
unfolding occurrence_numbers
returns c = c.put_list.ensures

pub over_two_spec : {M : Type 1} → statement M
over_two_spec =
    tie.close (tie.spec (λ c. search rules) (λ c. search rules) (λ c. search rules) put-list-requires (λ c. search rules) returns)
