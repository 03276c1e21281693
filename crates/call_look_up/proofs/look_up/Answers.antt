-- The part stands in the file that the look-up names, at its place.
use Rattle.std.proofs.Common.{ℕ, ◌≡◌, ◌+◌, ◌-◌, sym, ap, ◌∙◌, arith, rules, take, drop, Ok}
use Rattle.meaning.specs.Shelves.{look_up, handed}
use Rattle.read_parts.specs.Exact.{bytes-all}
use Rattle.call_look_up.proofs.Looks.{Handed, out-of-group, out-of_house}
use Rattle.call_look_up.proofs.look_up.Goals as goal
use Rattle.call_look_up.proofs.look_up.Goals.{In-Ok-Group, In-Ok-House}

in_group :
    (c : In-Ok-Group)
    → (let a = c.args in
    Handed a.group.now c.in-Ok-Group.field-0-0.start c.in-Ok-Group.field-0-0.length (handed (look_up a.group.now a.house.now a.number).decision))
in_group c =
    let a = c.args in
    out-of-group a.group.now a.house.now a.number
    (bytes-all a.group.now (λ i. (c.type_inv.group i).fits))
    (bytes-all a.house.now (λ i. (c.type_inv.house i).fits))
    c.in-Ok-Group.field-0-0
    (sym (c.in-Ok-Group.is ∙ ap Ok c.in-Ok-Group.field-0-is) ∙ c.which_shelf.ensures)

in_house :
    (c : In-Ok-House)
    → (let a = c.args in
    Handed a.house.now c.in-Ok-House.field-0-0.start c.in-Ok-House.field-0-0.length (handed (look_up a.group.now a.house.now a.number).decision))
in_house c =
    let a = c.args in
    out-of_house a.group.now a.house.now a.number
    (bytes-all a.group.now (λ i. (c.type_inv.group i).fits))
    (bytes-all a.house.now (λ i. (c.type_inv.house i).fits))
    c.in-Ok-House.field-0-0
    (sym (c.in-Ok-House.is ∙ ap Ok c.in-Ok-House.field-0-is) ∙ c.which_shelf.ensures)

pub overflow_add-result : goal.overflow_add-result
overflow_add-result c = let h = (in_group (goal.at.overflow_add-result c).In-Ok-Group).within in search rules

pub slice_bounds-result-end : goal.slice_bounds-result-end
slice_bounds-result-end c = (in_group (goal.at.slice_bounds-result-end c).In-Ok-Group).within

pub returns-in-Ok-Group : goal.returns-in-Ok-Group
returns-in-Ok-Group c =
    let start = c.in-Ok-Group.field-0-0.start in
    let count = c.in-Ok-Group.field-0-0.length in
    let whole : start + count - start ≡ count = omega arith in
    ap (λ (n : ℕ). take n (drop start c.args.group.now)) whole ∙ (in_group (goal.at.returns-in-Ok-Group c).In-Ok-Group).is

pub overflow_add-result-in-Ok-House : goal.overflow_add-result-in-Ok-House
overflow_add-result-in-Ok-House c = let h = (in_house (goal.at.overflow_add-result-in-Ok-House c).In-Ok-House).within in search rules

pub slice_bounds-result-end-in-Ok-House : goal.slice_bounds-result-end-in-Ok-House
slice_bounds-result-end-in-Ok-House c = (in_house (goal.at.slice_bounds-result-end-in-Ok-House c).In-Ok-House).within

pub returns-in-Ok-House : goal.returns-in-Ok-House
returns-in-Ok-House c =
    let start = c.in-Ok-House.field-0-0.start in
    let count = c.in-Ok-House.field-0-0.length in
    let whole : start + count - start ≡ count = omega arith in
    ap (λ (n : ℕ). take n (drop start c.args.house.now)) whole ∙ (in_house (goal.at.returns-in-Ok-House c).In-Ok-House).is
