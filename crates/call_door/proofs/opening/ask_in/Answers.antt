-- The file is made ready in lists that are long enough, and what is asked goes on from there.
use Rattle.open_file.specs.Opening.{opened, broken}
use Rattle.call_door.proofs.Refusing.{refused_meets}
use Rattle.call_door.proofs.opening.ask_in.Goals as goal

pub returns-in-Err : goal.returns-in-Err
returns-in-Err g c =
    refused_meets _ (broken _ _ _ _ _ _ _ c.prepare.result c.prepare.ensures _ c.in-Err.is) c.refused.ensures

pub returns-in-Ok : goal.returns-in-Ok
returns-in-Ok g c =
    c.ask_open.ensures (record { file = _; opened = opened _ _ _ _ _ _ _ c.prepare.result c.prepare.ensures _ c.in-Ok.is })
