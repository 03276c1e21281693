-- The bits of all bases, the mask of a word, and the rows that these give.
use borrow.Author.Rules.{rules}
use Rattle.filing.proofs.Masking.{words-laid}
use Rattle.filing.proofs.rows.lay_words.Statement.{statement}
use Rattle.filing.proofs.rows.lay_words.Tie as tie

lay-bits-requires : tie.Need-lay_bits-requires
lay-bits-requires c κs = search rules

mul-mask-of : tie.Need-overflow_mul-letters
mul-mask-of c = search rules

mask-of-requires : tie.Need-mask_of-mask-requires
mask-of-requires c κs = search rules

add-lay-rows : tie.Need-overflow_add-bases
add-lay-rows c = search rules

sub-lay-rows : tie.Need-overflow_sub-bases
sub-lay-rows c = search rules

lay-rows-requires : tie.Need-lay_rows-requires
lay-rows-requires c κs = search rules

same_length : tie.Need-shape_of-bits
same_length c = search rules

same-length-2 : tie.Need-shape_of-values
same-length-2 c = search rules

returns : tie.Need-returns
returns c =
    words-laid c.args.bases.now c.args.letters _ _ _ _ c.requires c.lay_bits.ensures c.mask_of-mask.ensures c.lay_rows.ensures

pub lay_words_spec : {M : Type 1} → statement M
lay_words_spec =
    tie.close
    (tie.spec
    lay-bits-requires
    mul-mask-of
    mask-of-requires
    add-lay-rows
    sub-lay-rows
    lay-rows-requires
    same_length
    same-length-2
    returns)
