-- `write_blocks::blocks` meets its contract: in a turn the next block comes first of those left. Assumes nothing.
use Rattle.std.proofs.Common.{◌-◌, refl, arith}
use Rattle.meaning.specs.Layout.{module_numbers}
use Rattle.meaning.specs.Counter.{block}
use Rattle.write_pieces.specs.Laying.{laying-none, laying-room, laying-more, laying-all}
use Rattle.write_blocks.specs.BlockNumbers.{rest-of-blocks, no_blocks}
use Rattle.write_blocks.proofs.blocks.Goals as goal

pub loop-j-init : goal.loop-j-init
loop-j-init c = laying-none c.args.bytes.now c.args.at refl c.requires.1.fits

pub block-at-requires : goal.block-at-requires
block-at-requires c =
    let left = c.loop-j.j in
    omega (
      arith,
      laying-room c.loop-j.invariant (module_numbers (block (left - 1))) _ (rest-of-blocks left c.loop-j-test.true),
    )

pub loop-j-preserved : goal.loop-j-preserved
loop-j-preserved c =
    let left = c.loop-j.j in
    laying-more c.loop-j.invariant (module_numbers (block (left - 1))) _ (rest-of-blocks left c.loop-j-test.true) c.block-at.ensures

pub returns : goal.returns
returns c = laying-all c.loop-j.invariant (no_blocks c.loop-j.j c.loop-j-test.false)
