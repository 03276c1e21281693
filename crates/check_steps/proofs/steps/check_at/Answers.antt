-- `check_steps::steps::check_at` meets its contract: the module breaks a rule, or it is fine and its size within the limit, or above.
-- Assumes nothing.
use Rattle.std.proofs.Common.{arith}
use Rattle.check_steps.proofs.FileTurn.{few, start-below, bounds, ready, nets-long, gone-broken, may_keep, gone-kept, gone-over}
use Rattle.check_steps.proofs.steps.check_at.Goals as goal

pub overflow_cast-base : goal.overflow_cast-base
overflow_cast-base c = omega (arith, few c.requires c.end_before-end.ensures)

pub overflow_mul-base : goal.overflow_mul-base
overflow_mul-base c = omega (arith, few c.requires c.end_before-end.ensures)

pub offset_bounds-numbers-start : goal.offset_bounds-numbers-start
offset_bounds-numbers-start c = omega (arith, start-below c.requires c.end_before-end.ensures)

pub slice_bounds-check_module-count : goal.slice_bounds-check_module-count
slice_bounds-check_module-count c = (bounds c.requires c.end_before-end.ensures).0

pub slice_bounds-check_module-start : goal.slice_bounds-check_module-start
slice_bounds-check_module-start c = (bounds c.requires c.end_before-end.ensures).0

pub slice_bounds-check_module-end : goal.slice_bounds-check_module-end
slice_bounds-check_module-end c = (bounds c.requires c.end_before-end.ensures).1

pub check_module-requires : goal.check_module-requires
check_module-requires c = ready c.requires c.end_before-end.ensures

pub offset_bounds-nets-k : goal.offset_bounds-nets-k
offset_bounds-nets-k c = omega (arith, few c.requires c.end_before-end.ensures)

pub bounds-nets-k : goal.bounds-nets-k
bounds-nets-k c = nets-long c.requires c.end_before-end.ensures

pub keep-requires : goal.keep-requires
keep-requires c =
    may_keep c.requires c.end_before-end.ensures c.check_module.ensures c.check_module.auto.numbers c.check_module.auto.slots _
    c.in-Ok.is

pub returns-in-Err : goal.returns-in-Err
returns-in-Err c b =
    rw c.at.ensures
    (gone-broken b c.end_before-end.ensures c.check_module.ensures c.check_module.auto.numbers c.check_module.auto.slots _ c.in-Err.is)

pub returns-then-keep : goal.returns-then-keep
returns-then-keep c b =
    gone-kept b c.end_before-end.ensures c.check_module.ensures c.check_module.auto.numbers c.check_module.auto.slots _ c.in-Ok.is
    c.keep.ensures c.if-keep.true

pub returns-else-keep : goal.returns-else-keep
returns-else-keep c b =
    rw c.over.ensures
    (gone-over b c.end_before-end.ensures c.check_module.ensures c.check_module.auto.numbers c.check_module.auto.slots _ c.in-Ok.is
    c.keep.ensures c.if-keep.false)
