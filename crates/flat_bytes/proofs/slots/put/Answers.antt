-- A turn writes the net at the next slot. Assumes nothing.
use Rattle.std.proofs.Common.{arith}
use Rattle.laws.specs.Lists.{all-at}
use Rattle.bytes_out.specs.Writing.{writing-room, writing_more, writing-all}
use Rattle.flat_bytes.proofs.Putting.{turn, count-of-nets, count_room, none_written, whole}
use Rattle.flat_bytes.proofs.slots.put.Goals as goal

pub overflow_sub-count : goal.overflow_sub-count
overflow_sub-count c = c.requires.readable.ordered

pub overflow_cast-count : goal.overflow_cast-count
overflow_cast-count c = omega (arith, count-of-nets c.requires, c.requires.within.count)

pub put-end-requires : goal.put-end-requires
put-end-requires c = (omega (arith, count-of-nets c.requires, c.requires.within.count), count_room c.requires)

pub loop-i-init : goal.loop-i-init
loop-i-init c = none_written c.requires c.put-end.ensures

pub overflow_add-from : goal.overflow_add-from
overflow_add-from c = omega (arith, c.requires.readable.inside)

pub entry-requires : goal.entry-requires
entry-requires c = omega (arith, c.requires.readable.inside)

pub bounds-scratch-entry : goal.bounds-scratch-entry
bounds-scratch-entry c = (turn c.requires c.loop-i-test.true c.entry.ensures).inside

pub put-end-requires-in-loop-i : goal.put-end-requires-in-loop-i
put-end-requires-in-loop-i c =
    let t = turn c.requires c.loop-i-test.true c.entry.ensures in
    rw t.value (all-at c.requires.within.numbers c.loop-i.i 0 t.more, writing-room c.loop-i.invariant t.more)

pub loop-i-preserved : goal.loop-i-preserved
loop-i-preserved c =
    let t = turn c.requires c.loop-i-test.true c.entry.ensures in
    writing_more c.loop-i.invariant t.more (rw t.value at c.put-end-in-loop-i.ensures)

pub returns : goal.returns
returns c = whole c.requires c.put-end.ensures (writing-all c.loop-i.invariant (omega (arith, count-of-nets c.requires)))
