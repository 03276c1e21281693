-- Each arm gives the table's entry, and the last that of every other stage.
use mathlib.Core.List.{[], ◌∷◌}
use mathlib.Core.Path.{refl}
use borrow.Author.Tests.{ne_eqb}
use Rattle.text_modes.specs.Modes.{modes, mode_after}
use Rattle.laws.specs.Texts.Below.{all_below}
use Rattle.text_modes.specs.Right.{among, else_astray}
use Rattle.text_modes.proofs.after_open.Statement.{statement}
use Rattle.text_modes.proofs.after_open.Tie as tie

other : tie.Need-returns-in_default
unfolding modes mode_after all_below among
other c =
    let mode = c.args.mode in
    let others = c.in_default.in_default-own.rest in
    else_astray 1 (0 ∷ 1 ∷ 2 ∷ 4 ∷ 6 ∷ 8 ∷ 9 ∷ 10 ∷ 12 ∷ []) refl mode c.requires
    (rw (ne_eqb mode 0 others.0.0.0.0.0.0.0.0.1, ne_eqb mode 1 others.0.0.0.0.0.0.0.1, ne_eqb mode 2 others.0.0.0.0.0.0.1, ne_eqb mode 4 others.0.0.0.0.0.1, ne_eqb mode 6 others.0.0.0.0.1, ne_eqb mode 8 others.0.0.0.1, ne_eqb mode 9 others.0.0.1, ne_eqb mode 10 others.0.1, ne_eqb mode 12 others.1))

pub after_open_spec : {M : Type 1} → statement M
unfolding modes mode_after
after_open_spec =
    tie.close
    (tie.spec
    (λ c. rw c.in-0.is)
    (λ c. rw c.in-1.is)
    (λ c. rw c.in-2.is)
    (λ c. rw c.in-4.is)
    (λ c. rw c.in-6.is)
    (λ c. rw c.in-8.is)
    (λ c. rw c.in-9.is)
    (λ c. rw c.in-10.is)
    (λ c. rw c.in-12.is)
    other)
