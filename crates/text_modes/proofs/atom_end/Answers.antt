use Rattle.std.proofs.Common.{arith, length, ◌≡◌, ◌∙◌}
use Rattle.text_modes.specs.Ends.{going_next, going-off, going_end}
use Rattle.text_modes.specs.Kinds.{letter_known, no_letter_known}
use Rattle.text_modes.proofs.atom_end.Goals as goal

pub returns-in_default : goal.returns-in_default
returns-in_default c =
    going-off _ _ c.loop-i.i (omega arith) (no_letter_known _ c.kind.ensures c.in_default.not-Letter) c.loop-i.invariant

pub loop-i-preserved : goal.loop-i-preserved
loop-i-preserved c =
    going_next _ _ c.loop-i.i (omega arith) (letter_known _ c.kind.ensures c.in-Letter.is) c.loop-i.invariant

pub returns : goal.returns
returns c =
    let end : length c.args.text.now ≡ c.loop-i.i = omega arith in
    end ∙ going_end _ _ c.loop-i.i (omega arith) c.loop-i.invariant
