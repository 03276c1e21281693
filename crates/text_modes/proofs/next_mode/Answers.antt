-- A quote mark stands in front of all, and a byte that is no part nowhere.
use Rattle.std.proofs.Common.{◌≡◌, ◌<◌, ℕ, refl, sym, ◌⊎◌, inl, inr, [], ◌∷◌, ne_eqb, eqb-true, eqb}
use Rattle.laws.specs.Texts.Below.{all_below, below}
use Rattle.text_modes.specs.Modes.{modes, mode_after}
use Rattle.text_modes.specs.Kinds.{code_of}
use Rattle.text_modes.specs.Right.{among, else_astray, stray_mode}
use Rattle.text_modes.specs.declared.ByteKind.{ByteKind}
use Rattle.text_modes.specs.declared.ByteKind.TheVariants.{Stray, Space}
use Rattle.text_modes.proofs.next_mode.Goals as goal

space_mode : (mode : ℕ) → mode < 19 → mode_after mode 5 ≡ 18
unfolding modes mode_after all_below
space_mode mode l = sym (eqb-true 18 (mode_after mode 5) (below 19 (λ mode. eqb 18 (mode_after mode 5)) refl mode l))

no_part : (k : ByteKind) (mode : ℕ) → mode < 19 → (k ≡ Stray) ⊎ (k ≡ Space) → 18 ≡ mode_after mode (code_of k)
no_part k mode l (inl e) = rw e (sym (stray_mode mode l))
no_part k mode l (inr e) = rw e (sym (space_mode mode l))

pub returns-then-mode-eq0 : goal.returns-then-mode-eq0
unfolding modes mode_after
returns-then-mode-eq0 c = rw (c.in-Mark.is, c.if-mode-eq0.true)

pub returns-else-mode-eq0 : goal.returns-else-mode-eq0
returns-else-mode-eq0 c =
    rw c.in-Mark.is
    (else_astray 0 (0 ∷ []) (unfold modes mode_after all_below among in refl) c.args.mode c.requires
    (unfold among in rw (ne_eqb c.args.mode 0 c.if-mode-eq0.false)))

pub returns-in-Stray : goal.returns-in-Stray
returns-in-Stray c = no_part _ _ c.requires c.in-Stray.is
