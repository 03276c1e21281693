-- A marked number is passed; of one that is not, the module's part of the file is put.
use Rattle.std.proofs.Common.{◌∙◌, arith}
use Rattle.write_joined.proofs.Marked.{marked-lacks, unmarked-lacks}
use Rattle.write_joined.proofs.Going.{takes_none, takes_one, place-order, part_end, part-is, part-fits}
use Rattle.write_joined.proofs.gathering.gather_one.Goals as goal

pub returns-then-marks-entry-ne0 : goal.returns-then-marks-entry-ne0
returns-then-marks-entry-ne0 c a =
    takes_none c.args.bytes.now c.args.done
    (marked-lacks a.m a.marked (c.entry.ensures ∙ a.shelved.named.name c.args.k a.here) c.if-marks-entry-ne0.true)

pub slice_bounds-copy-count : goal.slice_bounds-copy-count
slice_bounds-copy-count c = omega (arith, place-order c.requires)

pub slice_bounds-copy-start : goal.slice_bounds-copy-start
slice_bounds-copy-start c = omega (arith, place-order c.requires)

pub slice_bounds-copy-end : goal.slice_bounds-copy-end
slice_bounds-copy-end c = part_end c.requires

pub copy-requires : goal.copy-requires
copy-requires c =
    let a = c.requires in
    part-fits a
    (unmarked-lacks a.m a.marked (c.entry.ensures ∙ a.shelved.named.name c.args.k a.here) c.if-marks-entry-ne0.false)

pub returns : goal.returns
returns c a =
    takes_one c.args.done.modules c.args.done.at _
    (unmarked-lacks a.m a.marked (c.entry.ensures ∙ a.shelved.named.name c.args.k a.here) c.if-marks-entry-ne0.false)
    (part-is a)
    c.copy.ensures
