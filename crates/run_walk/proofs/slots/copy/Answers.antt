-- The entry that is read is the one at the slot, whatever an entry reads as that is not there.
use Rattle.std.proofs.Common.{◌+◌}
use Rattle.std.proofs.lemmas.List.{get_or_read}
use Rattle.image.specs.Gathering.{within, gathering-more, gathering-all}
use Rattle.run_walk.proofs.slots.copy.Goals as goal

pub loop-i-preserved : goal.loop-i-preserved
loop-i-preserved g c none =
    let a = c.args in
    let so_far = c.loop-i.invariant none in
    let read = (within none c.requires so_far c.loop-i-test.true c.entry.ensures).read in
    rw (get_or_read c.loop-i.scratch (a.source + c.entry.result) c.index-scratch-source.result read c.index-scratch-source.is none)
    (gathering-more none c.requires so_far c.loop-i-test.true c.entry.ensures)

pub returns : goal.returns
returns g c none = gathering-all none c.requires (c.loop-i.invariant none) c.loop-i-test.false
