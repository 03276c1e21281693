-- A byte more is a step more.
use Rattle.std.proofs.Common.{take, arith}
use Rattle.fasta.specs.Steps.{steps}
use Rattle.fasta.proofs.Stepping.{one_more}
use Rattle.fasta.proofs.reading.read_block.Goals as goal

pub loop-byte-init : goal.loop-byte-init
unfolding steps
loop-byte-init c = record { filled = c.requires.0; holds = λ s h. h }

pub loop-byte-preserved : goal.loop-byte-preserved
loop-byte-preserved c =
    let l = c.loop-byte in
    let a = c.args in
    record {
      filled = omega (arith, c.step-now.ensures.filled_in_bounds);
      holds =
          λ s h.
          rw (← one_more a.letters s a.bytes.now l.byte-index c.loop-byte-test.true)
          (c.step-now.ensures.holds (steps a.letters s (take l.byte-index a.bytes.now)) (l.invariant.holds s h));
    }
