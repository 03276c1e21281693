-- `write_counter::parts` meets its contract: in a turn a digit is left, so the sums stay small. Assumes nothing.
use Rattle.std.proofs.Common.{arith}
use Rattle.meaning.specs.Counter.{counter_module}
use Rattle.write_pieces.specs.Laying.{laying-all}
use Rattle.write_counter.proofs.Digits.{all_left, next_left}
use Rattle.write_counter.proofs.PartNumbers.{no_parts}
use Rattle.write_counter.proofs.Running.{level_below, some-left, none-left}
use Rattle.write_counter.proofs.Parting.{parting-start, part_room, bits-within, parting-one, parting-zero}
use Rattle.write_counter.proofs.parts.Goals as goal
use Rattle.write_counter.proofs.parts.Goals.{then-width-level-eq1, else-width-level-eq1}

pub loop-level-init : goal.loop-level-init
unfolding counter_module
loop-level-init c = rw (all_left c.args.width) (parting-start c.args.width c.requires.0 c.requires.2)

pub overflow_shr-width : goal.overflow_shr-width
overflow_shr-width c =
    omega (arith, level_below c.loop-level.invariant.running c.requires.1 c.loop-level-test.true)

pub part-at-requires : goal.part-at-requires
part-at-requires c =
    let parting = c.loop-level.invariant in
    let one = c.if-width-level-eq1.true in
    let most = level_below parting.running c.requires.1 c.loop-level-test.true in
    (most, bits-within parting one, omega arith, omega arith, part_room parting one)

pub bits_of-bits-requires : goal.bits_of-bits-requires
bits_of-bits-requires c = level_below c.loop-level.invariant.running c.requires.1 c.loop-level-test.true

pub overflow_add-bits : goal.overflow_add-bits
overflow_add-bits c =
    omega (arith, bits-within c.loop-level.invariant c.if-width-level-eq1.true, c.bits_of-bits.ensures)

pub overflow_mul-below : goal.overflow_mul-below
overflow_mul-below c =
    omega (arith, level_below c.loop-level.invariant.running c.requires.1 c.loop-level-test.true)

pub overflow_add-below : goal.overflow_add-below
overflow_add-below c =
    omega (arith, level_below c.loop-level.invariant.running c.requires.1 c.loop-level-test.true)

pub loop-level-preserved : goal.loop-level-preserved
loop-level-preserved c =
    let parting = c.loop-level.invariant in
    let some = some-left parting.running c.requires.1 c.loop-level-test.true in
    elim c.if-width-level-eq1.branch [
      | then-width-level-eq1 w ↦
          rw (w.bytes-is, w.at-is, w.bits-is, w.count-is, w.below-is, next_left c.args.width c.loop-level.level)
          (parting-one parting w.if-width-level-eq1.true w.bits_of-bits.ensures.0 w.part-at.ensures)
      | else-width-level-eq1 w ↦
          rw (w.bytes-is, w.at-is, w.bits-is, w.count-is, w.below-is, next_left c.args.width c.loop-level.level)
          (parting-zero parting some w.if-width-level-eq1.false)
    ]

pub returns : goal.returns
unfolding counter_module
returns c =
    let parting = c.loop-level.invariant in
    laying-all parting.laying (no_parts _ _ _ _ _ (none-left parting.running c.requires.1 c.loop-level-test.false))
