-- The number of the file is that of the case that `join` answers.
use Rattle.std.proofs.Common.{sym, ◌∙◌, length}
use Rattle.join_ending.specs.Joins.{join-told}
use Rattle.shelf_c.proofs.shelves.shelf_join.Goals as goal

pub returns-in-Ok-clause-which_after : goal.returns-in-Ok-clause-which_after
returns-in-Ok-clause-which_after c =
    let a = c.args in
    c.from.ensures ∙ join-told a.group.now a.house.now (length a.out.now) (sym c.in-Ok.is ∙ c.join.ensures.is)

pub returns-in-Err-clause-which_after : goal.returns-in-Err-clause-which_after
returns-in-Err-clause-which_after c =
    let a = c.args in
    c.from-in-Err.ensures ∙ join-told a.group.now a.house.now (length a.out.now) (sym c.in-Err.is ∙ c.join.ensures.is)
