-- `rows::head` meets its contract: pieces put one behind the other are the head's numbers. Assumes nothing.
use native.Mathlib.Omega.{arith}
use borrow.Author.Rules.{rules}
use Rattle.write_pieces.specs.Heads.{head_numbers}
use Rattle.write_pieces.specs.Laying.{laying-start, laying-left, laying-put, laying-last, room-first}
use Rattle.write_pieces.proofs.rows.head.Statement.{statement}
use Rattle.write_pieces.proofs.rows.head.Tie as tie

copy-requires : tie.Need-copy-bits-requires
unfolding head_numbers
copy-requires c κs = omega arith

row-requires : tie.Need-row-answers-requires
unfolding head_numbers
row-requires c κs =
    (omega arith, room-first _ (laying-left (laying-put c.copy-bits.ensures (laying-start c.requires.1))))

row-requires-2 : tie.Need-row-count-requires
unfolding head_numbers
row-requires-2 c κs =
    let one = laying-put c.copy-bits.ensures (laying-start c.requires.1) in
    (c.requires.0, room-first _ (laying-left (laying-put c.row-answers.ensures one)))

copy-requires-2 : tie.Need-copy-requires
unfolding head_numbers
copy-requires-2 c κs =
    let one = laying-put c.copy-bits.ensures (laying-start c.requires.1) in
    let two = laying-put c.row-answers.ensures one in
    omega (arith, laying-left (laying-put c.row-count.ensures two))

returns : tie.Need-returns
unfolding head_numbers
returns c =
    let one = laying-put c.copy-bits.ensures (laying-start c.requires.1) in
    let two = laying-put c.row-answers.ensures one in
    laying-last c.copy.ensures (laying-put c.row-count.ensures two)

pub head_spec : {M : Type 1} → statement M
head_spec =
    tie.close
    (tie.spec
    (λ c. search rules)
    copy-requires
    row-requires
    row-requires-2
    (λ c. search rules)
    copy-requires-2
    (λ c. search rules)
    returns)
