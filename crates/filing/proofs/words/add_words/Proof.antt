-- The words' shelves are read off the outputs of the run, and added.
use mathlib.Core.Path.{ap, ◌∙◌}
use native.Mathlib.Omega.{arith}
use borrow.Author.Rules.{rules}
use Rattle.laws.specs.Filing.Tables.{add_each}
use Rattle.filing.proofs.Tallying.{shelves_of-words, addable-words}
use Rattle.filing.proofs.words.add_words.Statement.{statement}
use Rattle.filing.proofs.words.add_words.Tie as tie

run-words-requires : tie.Need-run_words-requires
run-words-requires c κs = search rules

add-add-shelves : tie.Need-overflow_add-bases
add-add-shelves c = search rules

sub-add-shelves : tie.Need-overflow_sub-bases
sub-add-shelves c = search rules

add-shelves-requires : tie.Need-add_shelves-requires
add-shelves-requires c κs =
    let layable = c.requires.0.layable in
    addable-words c.args.bases.now _ c.args.letters layable.few c.run_words.ensures c.requires.1
    (omega (arith, layable.words, layable.most))

same_length : tie.Need-shape_of-bits
same_length c = search rules

same-length-2 : tie.Need-shape_of-values
same-length-2 c = search rules

same-length-3 : tie.Need-shape_of-outputs
same-length-3 c = search rules

same-length-4 : tie.Need-shape_of-table
same-length-4 c = search rules

returns : tie.Need-returns
returns c =
    c.add_shelves.ensures
    ∙ ap (λ l. add_each l c.args.table.now)
    (shelves_of-words c.args.bases.now _ c.args.letters c.requires.0.layable.few c.run_words.ensures)

pub add_words_spec : {M : Type 1} → statement M
add_words_spec =
    tie.close
    (tie.spec
    run-words-requires
    add-add-shelves
    sub-add-shelves
    add-shelves-requires
    same_length
    same-length-2
    same-length-3
    same-length-4
    returns)
