-- Both files are asked, and what they have is chosen from.
use Rattle.std.proofs.Common.{◌∙◌}
use Rattle.call_look_up.proofs.Looks.{looks}
use Rattle.call_look_up.proofs.which_shelf.Goals as goal

pub returns : goal.returns
returns c =
    let a = c.args in
    c.choose.ensures ∙ looks a.group.now a.house.now a.number c.seek.ensures c.seek-2.ensures
