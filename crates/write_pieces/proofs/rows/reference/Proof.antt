-- `rows::reference` meets its contract: pieces put one behind the other are the occurrence's numbers. Assumes nothing.
use native.Mathlib.Omega.{arith}
use borrow.Author.Rules.{rules}
use Rattle.meaning.specs.Layout.{occurrence_numbers}
use Rattle.write_pieces.specs.Laying.{laying-start, laying-left, laying-put, laying-last, room-first}
use Rattle.write_pieces.proofs.rows.reference.Statement.{statement}
use Rattle.write_pieces.proofs.rows.reference.Tie as tie

row-requires : tie.Need-row-number-requires
unfolding occurrence_numbers
row-requires c κs =
    (c.requires.0, room-first _ c.requires.2)

copy-requires : tie.Need-copy-arguments-requires
unfolding occurrence_numbers
copy-requires c κs =
    omega (arith, laying-left (laying-put c.row-number.ensures (laying-start c.requires.2)))

row-requires-2 : tie.Need-row-requires
unfolding occurrence_numbers
row-requires-2 c κs =
    let one = laying-put c.row-number.ensures (laying-start c.requires.2) in
    (c.requires.1, laying-left (laying-put c.copy-arguments.ensures one))

returns : tie.Need-returns
unfolding occurrence_numbers
returns c =
    let one = laying-put c.row-number.ensures (laying-start c.requires.2) in
    laying-last c.row.ensures (laying-put c.copy-arguments.ensures one)

pub reference_spec : {M : Type 1} → statement M
reference_spec =
    tie.close
    (tie.spec row-requires (λ c. search rules) copy-requires row-requires-2 (λ c. search rules) returns)
