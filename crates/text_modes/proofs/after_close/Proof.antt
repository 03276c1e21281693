-- Each arm gives the table's entry, and the last that of every other stage.
use mathlib.Core.List.{[], ◌∷◌}
use mathlib.Core.Path.{refl}
use borrow.Author.Tests.{ne_eqb}
use Rattle.text_modes.specs.Modes.{modes, mode_after}
use Rattle.laws.specs.Texts.Below.{all_below}
use Rattle.text_modes.specs.Right.{among, else_astray}
use Rattle.text_modes.proofs.after_close.Statement.{statement}
use Rattle.text_modes.proofs.after_close.Tie as tie

other : tie.Need-returns-in_default
unfolding modes mode_after all_below among
other c =
    let mode = c.args.mode in
    let others = c.in_default.in_default-own.rest in
    else_astray 2 (2 ∷ 5 ∷ 7 ∷ 9 ∷ 11 ∷ 14 ∷ 15 ∷ 16 ∷ []) refl mode c.requires
    (rw (ne_eqb mode 2 others.0.0.0.0.0.0.0.1, ne_eqb mode 5 others.0.0.0.0.0.0.1, ne_eqb mode 7 others.0.0.0.0.0.1, ne_eqb mode 9 others.0.0.0.0.1, ne_eqb mode 11 others.0.0.0.1, ne_eqb mode 14 others.0.0.1, ne_eqb mode 15 others.0.1, ne_eqb mode 16 others.1))

pub after_close_spec : {M : Type 1} → statement M
unfolding modes mode_after
after_close_spec =
    tie.close
    (tie.spec
    (λ c. rw c.in-2.is)
    (λ c. rw c.in-5.is)
    (λ c. rw c.in-7.is)
    (λ c. rw c.in-9.is)
    (λ c. rw c.in-11.is)
    (λ c. rw c.in-14.is)
    (λ c. rw c.in-15.is)
    (λ c. rw c.in-16.is)
    other)
