-- With the next slot stored at the net at i the table knows it too.
use Rattle.std.proofs.Common.{◌≡◌, ℕ, ◌+◌, ap, arith, length, take, length-take-le}
use Rattle.nets.specs.Members.{entry-fresh}
use Rattle.nets.specs.Walks.{up_to-here}
use Rattle.nets.specs.Tables.{knows-one}
use Rattle.nets.proofs.table.learn.Goals as goal

pub loop-i-preserved : goal.loop-i-preserved
loop-i-preserved c k single =
    let list = c.args.list.now in
    let i = c.loop-i.i in
    let here = c.loop-i-test.true in
    let next : length (take i list) ≡ i = length-take-le i list (omega arith) in
    rw (up_to-here list i here, ← ap (λ (n : ℕ). c.args.base + n) next)
    (knows-one _ (omega (arith, c.requires.below.below i)) (entry-fresh list i here single) (c.loop-i.invariant k single))
