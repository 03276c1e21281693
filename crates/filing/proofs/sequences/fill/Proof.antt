-- The counter's file, lists to work in, and a table of 0.
use mathlib.Core.Path.{refl}
use borrow.Author.Rules.{rules}
use Rattle.filing.proofs.sequences.fill.Statement.{statement}
use Rattle.filing.proofs.sequences.fill.Tie as tie

counter-file-requires : tie.Need-counter_file-file-requires
counter-file-requires c κs = search rules

clear-requires : tie.Need-clear-requires
clear-requires c κs = search rules

slice-aggregate-add-blocks : tie.Need-slice_bounds-add_blocks-end
slice-aggregate-add-blocks c = search rules

slice-aggregate-add-blocks-2 : tie.Need-slice_bounds-add_blocks-end-2
slice-aggregate-add-blocks-2 c = search rules

slice-aggregate-add-blocks-3 : tie.Need-slice_bounds-add_blocks-end-3
slice-aggregate-add-blocks-3 c = search rules

slice-aggregate-add-blocks-4 : tie.Need-slice_bounds-add_blocks-end-4
slice-aggregate-add-blocks-4 c = search rules

add-blocks-requires : tie.Need-add_blocks-requires
add-blocks-requires c κs =
    record {
      written = c.counter_file-file.ensures;
      word = c.requires.word;
      short = c.requires.short;
      bits-long = refl;
      values-long = refl;
      outputs-long = refl;
      empty = c.clear.ensures;
    }

same_length : tie.Need-shape_of-table
same_length c = search rules

returns : tie.Need-returns
returns c = search rules

pub fill_spec : {M : Type 1} → statement M
fill_spec =
    tie.close
    (tie.spec
    counter-file-requires
    clear-requires
    slice-aggregate-add-blocks
    slice-aggregate-add-blocks-2
    slice-aggregate-add-blocks-3
    slice-aggregate-add-blocks-4
    add-blocks-requires
    same_length
    returns)
