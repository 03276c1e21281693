-- A sign leads on, or nowhere.
use Rattle.std.proofs.Common.{refl, ap, ◌∙◌}
use Rattle.text_modes.specs.Kinds.{code_of, coded, same_code, is_below, not_below}
use Rattle.text_reader.specs.Turning.{sign-lost, sign-closed}
use Rattle.text_reader.proofs.turns.turn_sign.Goals as goal

pub returns-in_default : goal.returns-in_default
returns-in_default c =
    rw c.at.ensures
    (sign-lost _ _ _ _ _ c.requires.here (code_of c.args.part) _ (ap code_of c.requires.is ∙ coded _)
    (λ e. c.requires.no_letter (same_code _ _ e)) (λ e. c.requires.no_space (same_code _ _ e)) refl
    (not_below 18 _ c.after.ensures c.in_default.is))

pub returns : goal.returns
returns c =
    let leads = is_below 18 _ c.after.ensures c.in-Some.is in
    sign-closed _ _ _ _ _ c.requires.here (code_of c.args.part) _ (ap code_of c.requires.is ∙ coded _)
    (λ e. c.requires.no_letter (same_code _ _ e)) (λ e. c.requires.no_space (same_code _ _ e)) leads.0
    leads.1 (λ e. c.in_default-part.not-Opening (same_code _ _ e)) _ c.close.ensures
