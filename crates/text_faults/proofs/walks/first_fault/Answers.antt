-- The inputs are marked, and the occurrences stand behind the head.
use Rattle.std.proofs.Common.{◌≡◌, ◌+◌, ◌-◌, arith, length, get_or, []}
use Rattle.image.specs.Places.{HeaderOf}
use Rattle.fault_parts.specs.Asked.{Placed}
use Rattle.text_faults.specs.Body.{Body}
use Rattle.text_faults.proofs.Beginning.{beginning, inputs, begun-body, whole_fault}
use Rattle.text_faults.proofs.walks.first_fault.Goals as goal
use Rattle.text_faults.proofs.walks.first_fault.Goals.{After-module_at-header, After-mark_all}

header :
    (c : After-module_at-header) (p : Placed c.args.file.numbers.now c.args.file.starts.now c.args.file.count)
    → HeaderOf c.args.file.numbers.now (get_or c.args.file.starts.now c.args.position 0)
    (beginning p c.args.position c.requires.position_lt_modules).m c.module_at-header.result
header c p =
    let b = beginning p c.args.position c.requires.position_lt_modules in
    c.module_at-header.ensures b.m b.stands

-- The body behind it, once the inputs are marked.
abbrev bodied :
    (c : After-mark_all) (p : Placed c.args.file.numbers.now c.args.file.starts.now c.args.file.count)
    → Body c.args.file.numbers.now c.mark_all.new.marks (c.module_at-header.result.to + 1) c.module_at-header.result.count
bodied c p =
    let b = beginning p c.args.position c.requires.position_lt_modules in
    let h = c.module_at-header.ensures b.m b.stands in
    let start = get_or c.args.file.starts.now c.args.position 0 in
    let all : start + 2 + c.module_at-header.result.inputs - (start + 2) ≡ length b.m.inputs = omega (arith, h.inputs) in
    begun-body b (start + 2 + c.module_at-header.result.inputs - (start + 2)) h all (c.mark_all.ensures [] c.requires.marked)

pub module_at-header-requires : goal.module_at-header-requires
module_at-header-requires c =
    let b = beginning c.requires.placed c.args.position c.requires.position_lt_modules in
    record { m = b.m; stands = b.stands }

pub overflow_add-inputs : goal.overflow_add-inputs
overflow_add-inputs c =
    let b = beginning c.requires.placed c.args.position c.requires.position_lt_modules in
    omega (arith, (inputs b).within)

pub overflow_add-end : goal.overflow_add-end
overflow_add-end c =
    let b = beginning c.requires.placed c.args.position c.requires.position_lt_modules in
    let h = header (goal.at.overflow_add-end c).After-module_at-header c.requires.placed in
    omega (arith, (inputs b).within, h.inputs)

pub offset_bounds-file-inputs : goal.offset_bounds-file-inputs
offset_bounds-file-inputs c =
    let b = beginning c.requires.placed c.args.position c.requires.position_lt_modules in
    let h = header (goal.at.offset_bounds-file-inputs c).After-module_at-header c.requires.placed in
    omega (arith, (inputs b).within, h.inputs)

pub slice_bounds-mark_all-end : goal.slice_bounds-mark_all-end
slice_bounds-mark_all-end c =
    let b = beginning c.requires.placed c.args.position c.requires.position_lt_modules in
    let h = header (goal.at.slice_bounds-mark_all-end c).After-module_at-header c.requires.placed in
    omega (arith, (inputs b).within, h.inputs)

pub overflow_add-header : goal.overflow_add-header
overflow_add-header c =
    let h = header (goal.at.overflow_add-header c).After-module_at-header c.requires.placed in
    omega (arith, h.body.within)

pub walk-requires-clause-body : goal.walk-requires-clause-body
walk-requires-clause-body c = bodied (goal.at.walk-requires-clause-body c).After-mark_all c.requires.placed

pub returns : goal.returns
returns c p =
    whole_fault (beginning p c.args.position c.requires.position_lt_modules)
    (c.walk.ensures p (bodied (goal.at.returns c).After-mark_all p))
