-- The count that is read is the module's. Assumes nothing.
use Rattle.std.proofs.Common.{◌∙◌, refl, arith}
use Rattle.open_finding.specs.Here.{here-at}
use Rattle.rewrite_counts.proofs.Deciding.{many-here, few-here, few-left}
use Rattle.rewrite_counts.proofs.ceilings.few_occurrences.Goals as goal

pub loop-k-init : goal.loop-k-init
loop-k-init c s = refl

pub module_at-header-requires : goal.module_at-header-requires
module_at-header-requires c =
    let s = c.requires in
    let h = here-at s.table.ms c.loop-k.k (omega (arith, s.table.all)) in
    let there = s.stands c.loop-k.k h.m h.later h.here in
    record { m = there.0; stands = there.1 }

pub overflow_add-header : goal.overflow_add-header
overflow_add-header c =
    let s = c.requires in
    let h = here-at s.table.ms c.loop-k.k (omega (arith, s.table.all)) in
    let there = s.stands c.loop-k.k h.m h.later h.here in
    omega (arith, (c.module_at-header.ensures there.0 there.1).count, there.2, s.few c.loop-k.k h.m h.later h.here, c.type_inv.own c.loop-k.k)

pub returns-then-header-own-gt4096 : goal.returns-then-header-own-gt4096
returns-then-header-own-gt4096 c s =
    let h = here-at s.table.ms c.loop-k.k (omega (arith, s.table.all)) in
    let there = s.stands c.loop-k.k h.m h.later h.here in
    c.loop-k.invariant s
    ∙ many-here h (omega (arith, (c.module_at-header.ensures there.0 there.1).count, there.2, s.table.entry c.loop-k.k h.m h.later h.here))

pub loop-k-preserved : goal.loop-k-preserved
loop-k-preserved c s =
    let h = here-at s.table.ms c.loop-k.k (omega (arith, s.table.all)) in
    let there = s.stands c.loop-k.k h.m h.later h.here in
    c.loop-k.invariant s
    ∙ few-here h (omega (arith, (c.module_at-header.ensures there.0 there.1).count, there.2, s.table.entry c.loop-k.k h.m h.later h.here))

pub returns : goal.returns
returns c s = c.loop-k.invariant s ∙ few-left s.table.ms _ (omega (arith, s.table.all))
