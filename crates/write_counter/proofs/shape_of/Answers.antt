-- `write_counter::shape_of` meets its contract: in a turn a digit is left, so the sums stay small. Assumes nothing.
use Rattle.std.proofs.Common.{arith}
use Rattle.write_counter.proofs.Digits.{all_left, next_left}
use Rattle.write_counter.proofs.Running.{shaping_start, shaping_one, shaping_zero, shaping_end, level_below, some-left}
use Rattle.write_counter.proofs.shape_of.Goals as goal
use Rattle.write_counter.proofs.shape_of.Goals.{then-width-level-eq1, else-width-level-eq1}

pub loop-level-init : goal.loop-level-init
loop-level-init c = rw (all_left c.args.width) (shaping_start c.args.width c.requires)

pub overflow_shr-width : goal.overflow_shr-width
overflow_shr-width c =
    omega (arith, level_below c.loop-level.invariant.running c.digits_of-digits.ensures c.loop-level-test.true)

pub overflow_mul-occurrences : goal.overflow_mul-occurrences
overflow_mul-occurrences c =
    omega (arith, level_below c.loop-level.invariant.running c.digits_of-digits.ensures c.loop-level-test.true)

pub overflow_add-occurrences : goal.overflow_add-occurrences
overflow_add-occurrences c =
    omega (arith, level_below c.loop-level.invariant.running c.digits_of-digits.ensures c.loop-level-test.true)

pub overflow_add-occurrences-then-width-level-eq1 : goal.overflow_add-occurrences-then-width-level-eq1
overflow_add-occurrences-then-width-level-eq1 c =
    omega (arith, level_below c.loop-level.invariant.running c.digits_of-digits.ensures c.loop-level-test.true)

pub overflow_mul-below : goal.overflow_mul-below
overflow_mul-below c =
    omega (arith, level_below c.loop-level.invariant.running c.digits_of-digits.ensures c.loop-level-test.true)

pub overflow_add-below : goal.overflow_add-below
overflow_add-below c =
    omega (arith, level_below c.loop-level.invariant.running c.digits_of-digits.ensures c.loop-level-test.true)

pub loop-level-preserved : goal.loop-level-preserved
loop-level-preserved c =
    let shaping = c.loop-level.invariant in
    let some = some-left shaping.running c.digits_of-digits.ensures c.loop-level-test.true in
    elim c.if-width-level-eq1.branch [
      | then-width-level-eq1 w ↦
          rw (w.count-is, w.below-is, w.occurrences-is, next_left c.args.width c.loop-level.level)
          (shaping_one shaping w.if-width-level-eq1.true)
      | else-width-level-eq1 w ↦
          rw (w.count-is, w.below-is, w.occurrences-is, next_left c.args.width c.loop-level.level)
          (shaping_zero shaping some w.if-width-level-eq1.false)
    ]

pub returns : goal.returns
returns c = shaping_end c.loop-level.invariant c.digits_of-digits.ensures c.loop-level-test.false
