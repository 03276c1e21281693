-- The check's refusal, or the answer of the file.
use Rattle.std.proofs.Common.{sym, ◌∙◌, length}
use Rattle.read_parts.specs.Ways.{handed_on}
use Rattle.join_ending.proofs.Delivers.{delivers-refused, delivers}
use Rattle.join_ending.proofs.deliver.Goals as goal

pub returns-in_err-modules : goal.returns-in_err-modules
returns-in_err-modules c w =
    let out = c.args.out.now in
    rw (handed_on c.from_residual.ensures.1) (delivers-refused w (length out) out (sym c.in_err-modules.was ∙ c.modules.ensures))

pub returns : goal.returns
returns c w =
    let out = c.args.out.now in
    delivers w (length out) out (sym c.in_ok-modules.was ∙ c.modules.ensures) c.answer.ensures
