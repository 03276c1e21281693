-- The file is made ready in the lists, and then judged.
use Rattle.std.proofs.Common.{sym, ap, ◌∙◌}
use Rattle.read_parts.specs.Ways.{handed_on}
use Rattle.answers.specs.Judged.{check_of}
use Rattle.open_file.specs.Opening.{opened, broken}
use Rattle.call_rewrite.specs.Standing.{strict_refused, strict_accepted}
use Rattle.call_rewrite.proofs.strict.strict_in.Goals as goal

pub judge-requires : goal.judge-requires
judge-requires g c =
    let o = opened _ _ _ _ _ _ _ c.prepare.result c.prepare.ensures _ c.in_ok-modules.was in
    record { ms = o.ms; nets = _; held = o.held; all = o.all }

pub returns-in_err-modules : goal.returns-in_err-modules
returns-in_err-modules g c =
    handed_on c.from_residual.ensures.1
    ∙ sym (ap check_of (strict_refused _ _ _ (broken _ _ _ _ _ _ _ c.prepare.result c.prepare.ensures _ c.in_err-modules.was)))

pub returns : goal.returns
returns g c =
    let o = opened _ _ _ _ _ _ _ c.prepare.result c.prepare.ensures _ c.in_ok-modules.was in
    c.judge.ensures (record { ms = o.ms; nets = _; held = o.held; all = o.all })
    ∙ sym (ap check_of (strict_accepted _ o.ms o.reads o.held.good))
