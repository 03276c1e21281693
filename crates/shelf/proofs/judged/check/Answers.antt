-- What counting the modules says is what the check says.
use Rattle.std.proofs.lemmas.Result.{err_from_is_err_and}
use Rattle.shelf.proofs.Answering.{judges}
use Rattle.shelf.proofs.judged.check.Goals as goal

pub returns-in_err-modules : goal.returns-in_err-modules
returns-in_err-modules c =
    let on = err_from_is_err_and c.from_residual.result c.from_residual.ensures.1 in
    rw (on.1, on.2) (judges _ c.modules.ensures c.in_err-modules.was)

pub returns : goal.returns
returns c = judges _ c.modules.ensures c.in_ok-modules.was
