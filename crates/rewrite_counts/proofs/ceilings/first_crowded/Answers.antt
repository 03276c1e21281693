-- A module with more nets is the first one; where none has, none is ahead behind the last. Assumes nothing.
use Rattle.std.proofs.Common.{◌∙◌, refl, arith}
use Rattle.open_finding.specs.Here.{here-at}
use Rattle.rewrite_counts.proofs.Deciding.{crowded-here, uncrowded_here, uncrowded_left}
use Rattle.rewrite_counts.proofs.ceilings.first_crowded.Goals as goal

pub loop-k-init : goal.loop-k-init
loop-k-init c s = refl

pub overflow_add-nets : goal.overflow_add-nets
overflow_add-nets c =
    let s = c.requires in
    let h = here-at s.table.ms c.loop-k.k (omega (arith, s.table.all)) in
    omega (arith, s.entry c.loop-k.k h.m h.later h.here, s.few c.loop-k.k h.m h.later h.here, c.type_inv.own c.loop-k.k)

pub returns-then-nets-k-gt4096 : goal.returns-then-nets-k-gt4096
returns-then-nets-k-gt4096 c s =
    let h = here-at s.table.ms c.loop-k.k (omega (arith, s.table.all)) in
    c.loop-k.invariant s ∙ crowded-here h (omega (arith, s.entry c.loop-k.k h.m h.later h.here, s.table.entry c.loop-k.k h.m h.later h.here))

pub loop-k-preserved : goal.loop-k-preserved
loop-k-preserved c s =
    let h = here-at s.table.ms c.loop-k.k (omega (arith, s.table.all)) in
    c.loop-k.invariant s ∙ uncrowded_here h (omega (arith, s.entry c.loop-k.k h.m h.later h.here, s.table.entry c.loop-k.k h.m h.later h.here))

pub returns : goal.returns
returns c s = c.loop-k.invariant s ∙ uncrowded_left s.table.ms _ (omega (arith, s.table.all))
