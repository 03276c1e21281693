-- A byte that stands for a value is one more, and one fewer is left.
use Rattle.std.proofs.Common.{arith, ap, length}
use Rattle.row_lines.proofs.Values.{value-here, no_value-here, no_values}
use Rattle.row_lines.proofs.words.count_values.Goals.{then-mark_of-lt-GAP, else-mark_of-lt-GAP}
use Rattle.row_lines.proofs.words.count_values.Goals as goal

pub loop-byte-preserved : goal.loop-byte-preserved
loop-byte-preserved c =
    let l = c.loop-byte in
    let w = c.args.word.now in
    elim c.if-mark_of-lt-GAP.branch [
      | then-mark_of-lt-GAP a ↦
          let one = value-here w l.byte-index c.loop-byte-test.true (omega (arith, c.mark_of.ensures, a.if-mark_of-lt-GAP.true)) in
          (omega (arith, a.values-is, l.invariant.0), omega (arith, a.values-is, ap length one, l.invariant.1))
      | else-mark_of-lt-GAP a ↦
          let none = no_value-here w l.byte-index c.loop-byte-test.true (omega (arith, c.mark_of.ensures, a.if-mark_of-lt-GAP.false)) in
          (omega (arith, a.values-is, l.invariant.0), omega (arith, a.values-is, ap length none, l.invariant.1))
    ]

pub returns : goal.returns
returns c =
    let none = no_values c.args.word.now c.loop-byte.byte-index c.loop-byte-test.false in
    omega (arith, ap length none, c.loop-byte.invariant.1)
