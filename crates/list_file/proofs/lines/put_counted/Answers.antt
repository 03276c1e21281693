-- The line is that of the figures or of the refusal.
use Rattle.list_file.proofs.Telling.{answered, refused}
use Rattle.list_file.proofs.lines.put_counted.Goals as goal

pub returns-in-Ok : goal.returns-in-Ok
returns-in-Ok c = answered c.args.position c.args.number c.in-Ok.is c.put_figures.ensures

pub returns-in-Err : goal.returns-in-Err
returns-in-Err c = refused c.args.position c.args.number c.in-Err.is c.put_module_refusal.ensures
