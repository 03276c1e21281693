-- The loop ends where no row is left, or no values, or no room.
use Rattle.std.proofs.Common.{arith}
use Rattle.row_lines.proofs.Texts.{lays-begin, lays_more, lays_no_values, lays_no_room, lays_all}
use Rattle.row_lines.proofs.digits.put_lines.Goals as goal

pub loop-init : goal.loop-init
loop-init c = lays-begin _ _ _ _

pub overflow_sub-values : goal.overflow_sub-values
overflow_sub-values c = c.loop.invariant.inside

pub returns-then-values-from : goal.returns-then-values-from
returns-then-values-from c = lays_no_values c.loop.invariant c.if-values-from.true

pub overflow_sub-out : goal.overflow_sub-out
overflow_sub-out c = omega (arith, c.loop.invariant.room-is)

pub returns-then-out-at : goal.returns-then-out-at
returns-then-out-at c = lays_no_room c.loop.invariant c.if-out-at.true

pub slice_bounds-put_line-end : goal.slice_bounds-put_line-end
slice_bounds-put_line-end c = omega (arith, c.loop.invariant.inside, c.if-values-from.false)

pub loop-preserved : goal.loop-preserved
loop-preserved c = lays_more c.loop.invariant c.loop-test.true c.if-values-from.false c.if-out-at.false c.put_line-at.ensures

pub returns : goal.returns
returns c = lays_all c.loop.invariant c.loop-test.false
