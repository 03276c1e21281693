-- The number of the file is that of the case that `which_shelf` answers.
use Rattle.std.proofs.Common.{sym, ap, ◌∙◌, Ok}
use Rattle.call_look_up.specs.Looking.{look-told}
use Rattle.shelf_c.proofs.shelves.shelf_look_up.Goals as goal

pub returns-in-Ok-House-clause-which_after : goal.returns-in-Ok-House-clause-which_after
returns-in-Ok-House-clause-which_after c =
    let a = c.args in
    c.from-in-Ok-House.ensures
    ∙ look-told a.group.now a.house.now a.number (sym (c.in-Ok-House.is ∙ ap Ok c.in-Ok-House.field-0-is) ∙ c.which_shelf.ensures)

pub returns-in-Err-clause-which_after : goal.returns-in-Err-clause-which_after
returns-in-Err-clause-which_after c =
    let a = c.args in
    c.from-in-Err.ensures ∙ look-told a.group.now a.house.now a.number (sym c.in-Err.is ∙ c.which_shelf.ensures)
