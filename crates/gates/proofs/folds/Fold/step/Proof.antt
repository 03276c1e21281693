-- `gates::folds::Fold::step` meets its contract: the word of the operation holds the result at the place of the two values.
use Prim.Native.Nat.{◌≤◌}
use mathlib.Core.Path.{sym}
use native.Mathlib.Omega.{arith}
use borrow.Author.Rules.{rules}
use Rattle.meaning.specs.Values.{value}
use Rattle.gates.specs.ThreeValues.{code-of-value, is-small}
use Rattle.gates.specs.Tables.{stands_at}
use Rattle.gates.proofs.folds.Fold.step.Statement.{statement}
use Rattle.gates.proofs.folds.Fold.step.Tie as tie
use Rattle.gates.proofs.folds.Fold.step.Reads as reads
use Rattle.gates.proofs.folds.Fold.step.Lts as lts
use Rattle.gates.proofs.folds.Fold.table.Reads as table-reads
use Rattle.gates.proofs.folds.coded.Reads as coded-reads

abbrev Both : Type 0
Both = lts.After-coded (table-reads.Asked, table-reads.Learnt, coded-reads.Asked, coded-reads.Learnt) reads.Pre reads.Post

small : (c : Both) → c.coded.result ≤ 2
small c = is-small (value c.before.before.args.b) c.coded.ensures

returns : tie.Need-returns
returns c =
    let given = c.args in
    stands_at given.self (value given.a) (value given.b)
    c.table.ensures
    (sym (code-of-value given.a c.requires))
    c.coded.ensures

pub step_spec : {M : Type 1} → statement M
step_spec =
    tie.close
    (tie.spec
    (λ c κs. search rules)
    (λ c. search rules)
    (λ c κs. search rules)
    (λ c. omega (arith, small c))
    (λ c. omega (arith, small c, c.requires))
    (λ c. omega (arith, small c, c.requires))
    returns)
