-- `letters` meets its contract. The loop's invariant: the letters passed and those left. Assumes nothing.
use Rattle.std.proofs.Common.{arith}
use Rattle.ndl_names.proofs.Names.{letters-none, letters-end, letters-next}
use Rattle.ndl_names.proofs.letters.Goals as goal

pub loop-i-preserved : goal.loop-i-preserved
loop-i-preserved c =
    let name = c.args.name.now in
    (omega arith, omega (arith, c.loop-i.invariant.1, letters-next name c.loop-i.i c.loop-i-test.true c.if-name-i-eq32.false))

pub returns-then-name-i-eq32 : goal.returns-then-name-i-eq32
returns-then-name-i-eq32 c =
    let name = c.args.name.now in
    omega (arith, c.loop-i.invariant.1, letters-end name c.loop-i.i c.loop-i-test.true c.if-name-i-eq32.true)

pub returns : goal.returns
returns c =
    let name = c.args.name.now in
    omega (arith, c.loop-i.invariant.1, letters-none name c.loop-i.i c.loop-i-test.false)
