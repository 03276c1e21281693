-- Inputs, outputs and the nets of the occurrences are all that a module mentions, and each is a part of the numbers.
use Rattle.std.proofs.Common.{◌+◌, ◌-◌, refl, ◌∙◌, arith}
use Rattle.image.specs.Places.{HeaderOf}
use Rattle.rewrite_bytes.specs.Modules.{ModuleMarkable}
use Rattle.rewrite_bytes.proofs.Marking.{part_small, indexed}
use Rattle.rewrite_bytes.proofs.Modules.{none-stamped, all-stamped, parts, inputs-part, outputs-part}
use Rattle.rewrite_bytes.proofs.files.mark_module.Goals as goal
use Rattle.rewrite_bytes.proofs.files.mark_module.Goals.{After-module_at-header}

pub module_at-header-requires : goal.module_at-header-requires
module_at-header-requires c = let s = c.requires in record { m = s.m; stands = s.stands }

header :
    (c : After-module_at-header) (s : ModuleMarkable c.args.numbers.now c.args.start c.args.table.now c.args.stamp)
    → HeaderOf c.args.numbers.now c.args.start s.m c.module_at-header.result
header c s = c.module_at-header.ensures s.m s.stands

pub overflow_add-inputs : goal.overflow_add-inputs
overflow_add-inputs c = let s = c.requires in omega (arith, (parts s.m s.stands).end)

pub overflow_add-inputs_end : goal.overflow_add-inputs_end
overflow_add-inputs_end c =
    let s = c.requires in
    omega (arith, (parts s.m s.stands).end, (header (goal.at.overflow_add-inputs_end c).After-module_at-header s).inputs)

pub offset_bounds-numbers-inputs : goal.offset_bounds-numbers-inputs
offset_bounds-numbers-inputs c =
    let s = c.requires in
    omega (arith, (parts s.m s.stands).end, (header (goal.at.offset_bounds-numbers-inputs c).After-module_at-header s).inputs)

pub slice_bounds-mark-end : goal.slice_bounds-mark-end
slice_bounds-mark-end c =
    let s = c.requires in
    omega (arith, (parts s.m s.stands).end, (header (goal.at.slice_bounds-mark-end c).After-module_at-header s).inputs)

pub mark-requires : goal.mark-requires
mark-requires c =
    let s = c.requires in
    let from = c.args.start + 2 in
    indexed _ (part_small (from + c.module_at-header.result.inputs - from) from s.small) s.wide

pub offset_bounds-numbers-outputs : goal.offset_bounds-numbers-outputs
offset_bounds-numbers-outputs c =
    let s = c.requires in
    let h = header (goal.at.offset_bounds-numbers-outputs c).After-module_at-header s in
    omega (arith, (parts s.m s.stands).end, h.from, h.to)

pub slice_bounds-mark-count-2 : goal.slice_bounds-mark-count-2
slice_bounds-mark-count-2 c = omega (arith, (header (goal.at.slice_bounds-mark-count-2 c).After-module_at-header c.requires).to)

pub slice_bounds-mark-start-2 : goal.slice_bounds-mark-start-2
slice_bounds-mark-start-2 c = omega (arith, (header (goal.at.slice_bounds-mark-start-2 c).After-module_at-header c.requires).to)

pub slice_bounds-mark-end-2 : goal.slice_bounds-mark-end-2
slice_bounds-mark-end-2 c =
    let s = c.requires in
    let h = header (goal.at.slice_bounds-mark-end-2 c).After-module_at-header s in
    omega (arith, (parts s.m s.stands).end, h.from, h.to)

pub mark-requires-2 : goal.mark-requires-2
mark-requires-2 c =
    let s = c.requires in
    let h = c.module_at-header.result in
    indexed _ (part_small (h.to - h.from) h.from s.small) (c.mark.auto.table ∙ s.wide)

pub overflow_add-outputs_end : goal.overflow_add-outputs_end
overflow_add-outputs_end c =
    let s = c.requires in
    let h = header (goal.at.overflow_add-outputs_end c).After-module_at-header s in
    omega (arith, (parts s.m s.stands).end, h.from, h.to)

pub mark_body-requires : goal.mark_body-requires
mark_body-requires c =
    let s = c.requires in
    let h = header (goal.at.mark_body-requires c).After-module_at-header s in
    record { os = s.m.occurrences; stands = h.body; many = h.count; small = s.small; wide = c.mark-2.auto.table ∙ c.mark.auto.table ∙ s.wide }

pub returns : goal.returns
returns c s =
    let h = header (goal.at.returns c).After-module_at-header s in
    let from = c.args.start + 2 in
    let place = c.module_at-header.result in
    all-stamped s.m _ _
    (inputs-part s.m s.stands (from + place.inputs - from) from (omega (arith, h.inputs)) refl)
    (outputs-part s.m s.stands (place.to - place.from) place.from (omega (arith, h.from, h.to)) h.from)
    (c.mark_body.ensures
    (record { os = s.m.occurrences; stands = h.body; many = h.count; small = s.small; wide = c.mark-2.auto.table ∙ c.mark.auto.table ∙ s.wide })
    _
    (c.mark-2.ensures _ (c.mark.ensures _ (none-stamped s.older))))
