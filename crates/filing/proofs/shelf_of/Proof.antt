-- A block of one word.
use mathlib.Core.Path.{◌≡◌, ◌∙◌}
use native.Mathlib.Omega.{arith}
use borrow.Author.Rules.{rules}
use lib.ListN.{length}
use Rattle.meaning.specs.Filing.{shelf_of}
use Rattle.filing.specs.Reading.{six_bits}
use Rattle.laws.specs.Filing.Words.{shelf-most}
use Rattle.filing.proofs.OneWord.{block-of-one, shelf-of-one}
use Rattle.filing.proofs.shelf_of.Statement.{statement}
use Rattle.filing.proofs.shelf_of.Tie as tie

counter-file-requires : tie.Need-counter_file-file-requires
counter-file-requires c κs = search rules

slice-aggregate-run-words : tie.Need-slice_bounds-run_words-end
slice-aggregate-run-words c = search rules

slice-aggregate-run-words-2 : tie.Need-slice_bounds-run_words-end-2
slice-aggregate-run-words-2 c = search rules

slice-aggregate-run-words-3 : tie.Need-slice_bounds-run_words-end-3
slice-aggregate-run-words-3 c = search rules

slice-aggregate-run-words-4 : tie.Need-slice_bounds-run_words-end-4
slice-aggregate-run-words-4 c = search rules

run-words-requires : tie.Need-run_words-requires
run-words-requires c κs =
    block-of-one _ (length c.args.word.now) c.requires c.counter_file-file.ensures

slice-aggregate-shelf-at : tie.Need-slice_bounds-shelf_at-end
slice-aggregate-shelf-at c = search rules

shelf-at-requires : tie.Need-shelf_at-requires
shelf-at-requires c κs = search rules

read : (c : tie.After-shelf_at) → six_bits c.run_words.new.outputs 0 ≡ shelf_of c.args.word.now
read c = shelf-of-one c.args.word.now _ c.requires c.run_words.ensures

cast-result : tie.Need-overflow_cast-result
cast-result c =
    omega (arith, c.shelf_at.ensures, read c, shelf-most c.args.word.now c.requires.few)

returns : tie.Need-returns
returns c = c.shelf_at.ensures ∙ read c

pub shelf_of_spec : {M : Type 1} → statement M
shelf_of_spec =
    tie.close
    (tie.spec
    counter-file-requires
    slice-aggregate-run-words
    slice-aggregate-run-words-2
    slice-aggregate-run-words-3
    slice-aggregate-run-words-4
    run-words-requires
    slice-aggregate-shelf-at
    shelf-at-requires
    cast-result
    returns)
