-- `blocks::block` meets its contract. Assumes nothing.
use borrow.Author.Rules.{rules}
use Rattle.write_blocks.specs.BlockNumbers.{first_block, block-above}
use Rattle.write_blocks.proofs.block.Statement.{statement}
use Rattle.write_blocks.proofs.block.Tie as tie

pair-block-requires : tie.Need-pair_block-requires
pair-block-requires c κs =
    rw (first_block c.args.j c.if-j-eq0.true) at c.requires.1

returns : tie.Need-returns-then-j-eq0
returns c =
    rw (first_block c.args.j c.if-j-eq0.true) c.pair_block.ensures

join-block-requires : tie.Need-join_block-requires
join-block-requires c κs =
    rw (block-above c.args.j c.if-j-eq0.false) at c.requires

returns-2 : tie.Need-returns
returns-2 c =
    rw (block-above c.args.j c.if-j-eq0.false) c.join_block.ensures

pub block_spec : {M : Type 1} → statement M
block_spec =
    tie.close
    (tie.spec pair-block-requires (λ c. search rules) returns join-block-requires (λ c. search rules) returns-2)
