-- The words are laid, and none of the library's refusals applies.
use borrow.Author.Rules.{rules}
use Rattle.filing.proofs.Blocks.{runnable-words, outputs-of-words}
use Rattle.filing.proofs.words.run_words.Statement.{statement}
use Rattle.filing.proofs.words.run_words.Tie as tie

lay-words-requires : tie.Need-lay_words-requires
lay-words-requires c κs = search rules

add-run-rows : tie.Need-overflow_add-bases
add-run-rows c = search rules

sub-run-rows : tie.Need-overflow_sub-bases
sub-run-rows c = search rules

run-rows-requires : tie.Need-run_rows-requires
run-rows-requires c κs =
    runnable-words c.args.file.now c.args.bases.now _ c.args.letters _ c.requires c.lay_words.ensures

same_length : tie.Need-shape_of-bits
same_length c = search rules

same-length-2 : tie.Need-shape_of-values
same-length-2 c = search rules

same-length-3 : tie.Need-shape_of-outputs
same-length-3 c = search rules

returns : tie.Need-returns
returns c =
    outputs-of-words c.args.bases.now _ _ c.args.letters
    (c.run_rows.ensures
    (runnable-words c.args.file.now c.args.bases.now _ c.args.letters _ c.requires c.lay_words.ensures))

pub run_words_spec : {M : Type 1} → statement M
run_words_spec =
    tie.close
    (tie.spec
    lay-words-requires
    add-run-rows
    sub-run-rows
    run-rows-requires
    same_length
    same-length-2
    same-length-3
    returns)
