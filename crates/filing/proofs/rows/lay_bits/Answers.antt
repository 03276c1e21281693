-- A base's two bits go behind those that stand there.
use Rattle.std.proofs.Common.{◌≡◌, arith, length}
use Rattle.filing.proofs.Bits.{bits-before, bits-passed}
use Rattle.filing.proofs.rows.lay_bits.Goals as goal

pub loop-i-init : goal.loop-i-init
loop-i-init c = bits-before c.args.bases.now c.args.bits.now

pub loop-i-preserved : goal.loop-i-preserved
loop-i-preserved c =
    let l = c.loop-i in
    bits-passed c.args.bases.now c.args.bits.now l.bits l.i c.base_of-base.result (omega arith) (omega arith) l.invariant c.base_of-base.ensures
