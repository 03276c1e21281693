-- `bytes::copy` meets its contract: in a turn a byte is left, and there is room for it. Assumes nothing.
use Rattle.std.proofs.Common.{refl, drop_of_length-le}
use Rattle.write_pieces.specs.Laying.{laying-none, laying_store, laying-all}
use Rattle.write_pieces.specs.Runs.{rest-of-list}
use Rattle.write_pieces.proofs.bytes.copy.Goals as goal

pub loop-byte-init : goal.loop-byte-init
loop-byte-init c = laying-none c.args.bytes.now c.args.at refl c.requires

pub loop-byte-preserved : goal.loop-byte-preserved
loop-byte-preserved c =
    let loop = c.loop-byte in
    laying_store loop.invariant (rest-of-list c.args.piece.now loop.byte-index c.loop-byte-test.true)

pub returns : goal.returns
returns c = laying-all c.loop-byte.invariant (drop_of_length-le c.args.piece.now c.loop-byte-test.false)
