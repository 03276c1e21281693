-- `gates::pairs::result` meets its contract: the word of the rule holds the result at the place of the two values. Assumes nothing.
use Prim.Native.Nat.{◌≤◌}
use native.Mathlib.Omega.{arith}
use borrow.Author.Rules.{rules}
use Rattle.meaning.specs.Values.{value}
use Rattle.gates.specs.ThreeValues.{is-small}
use Rattle.gates.specs.Tables.{pair_stands_at}
use Rattle.gates.proofs.pairs.result.Statement.{statement}
use Rattle.gates.proofs.pairs.result.Tie as tie

-- Both arguments are told as 0, 1 or 2.
first_small : (c : tie.After-coded) → c.coded.result ≤ 2
first_small c = is-small (value c.args.a) c.coded.ensures

second-small : (c : tie.After-coded-2) → c.coded-2.result ≤ 2
second-small c = is-small (value c.args.b) c.coded-2.ensures

returns : tie.Need-returns
returns c =
    let given = c.args in
    pair_stands_at given.rule (value given.a) (value given.b) c.table.ensures c.coded.ensures c.coded-2.ensures

pub result_spec : {M : Type 1} → statement M
result_spec =
    tie.close
    (tie.spec
    (λ c κs. search rules)
    (λ c κs. search rules)
    (λ c. omega (arith, first_small c))
    (λ c κs. search rules)
    (λ c. omega (arith, second-small c))
    (λ c. omega (arith, first_small c.before, second-small c))
    (λ c. omega (arith, first_small c.before, second-small c))
    returns)
