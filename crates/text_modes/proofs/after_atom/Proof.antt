-- Each arm gives the table's entry, and the last that of every other stage.
use mathlib.Core.List.{[], ◌∷◌}
use mathlib.Core.Path.{refl}
use borrow.Author.Tests.{ne_eqb}
use Rattle.text_modes.specs.Modes.{modes, mode_after}
use Rattle.laws.specs.Texts.Below.{all_below}
use Rattle.text_modes.specs.Right.{among, else_astray}
use Rattle.text_modes.proofs.after_atom.Statement.{statement}
use Rattle.text_modes.proofs.after_atom.Tie as tie

other : tie.Need-returns-in_default
unfolding modes mode_after all_below among
other c =
    let mode = c.args.mode in
    let others = c.in_default.in_default-own.rest in
    else_astray 4 (3 ∷ 5 ∷ 7 ∷ 11 ∷ 13 ∷ 14 ∷ []) refl mode c.requires
    (rw (ne_eqb mode 3 others.0.0.0.0.0.1, ne_eqb mode 5 others.0.0.0.0.1, ne_eqb mode 7 others.0.0.0.1, ne_eqb mode 11 others.0.0.1, ne_eqb mode 13 others.0.1, ne_eqb mode 14 others.1))

pub after_atom_spec : {M : Type 1} → statement M
unfolding modes mode_after
after_atom_spec =
    tie.close
    (tie.spec
    (λ c. rw c.in-3.is)
    (λ c. rw c.in-5.is)
    (λ c. rw c.in-7.is)
    (λ c. rw c.in-11.is)
    (λ c. rw c.in-13.is)
    (λ c. rw c.in-14.is)
    other)
