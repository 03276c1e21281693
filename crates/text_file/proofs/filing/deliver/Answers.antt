-- The file's refusal is handed on, and a file that is accepted is written.
use Rattle.std.proofs.Common.{length, sym, ◌∙◌}
use Rattle.std.proofs.lemmas.Result.{err_from_is_err_and}
use Rattle.text_file.specs.Delivers.{delivers-refused, delivers}
use Rattle.text_file.proofs.filing.deliver.Goals as goal

pub returns-in_err-modules : goal.returns-in_err-modules
returns-in_err-modules c = λ w.
    let on = err_from_is_err_and c.from_residual.result c.from_residual.ensures.1 in
    rw (on.1, on.2) (delivers-refused w (length c.args.out.now) c.args.out.now (sym c.in_err-modules.was ∙ c.modules.ensures))

pub returns : goal.returns
returns c = λ w. delivers w (length c.args.out.now) c.args.out.now (sym c.in_ok-modules.was ∙ c.modules.ensures) c.answer.ensures
