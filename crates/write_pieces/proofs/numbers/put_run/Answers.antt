-- `numbers::put_run` meets its contract: in a turn the bytes of a number come first of those left. Assumes nothing.
use Rattle.std.proofs.Common.{ℕ, ◌+◌, ◌-◌, ◌<◌, ◌≡◌, ◌++◌, ap, arith}
use Rattle.meaning.specs.Layout.{each, number_bytes}
use Rattle.meaning.specs.Adder.{up_from}
use Rattle.write_pieces.specs.Laying.{laying-none, laying-room, laying-more, laying-all}
use Rattle.write_pieces.specs.Encoding.{bytes-of-next, no_bytes}
use Rattle.write_pieces.specs.Runs.{whole_run, rest-of-run, no_run}
use Rattle.write_pieces.proofs.numbers.put_run.Goals as goal

next : (first count i : ℕ) → i < count
    → each number_bytes (up_from (first + i) (count - i))
    ≡ number_bytes (first + i) ++ each number_bytes (up_from (first + (i + 1)) (count - (i + 1)))
next first count i some = bytes-of-next (rest-of-run first count i some)

pub loop-i-init : goal.loop-i-init
loop-i-init c =
    laying-none c.args.bytes.now c.args.at (ap (each number_bytes) (whole_run c.args.first c.args.count)) c.requires.1.fits

pub put-at-requires : goal.put-at-requires
put-at-requires c =
    let left = next c.args.first c.args.count c.loop-i.i c.loop-i-test.true in
    omega (arith, c.requires, laying-room c.loop-i.invariant (number_bytes _) _ left)

pub loop-i-preserved : goal.loop-i-preserved
loop-i-preserved c =
    let left = next c.args.first c.args.count c.loop-i.i c.loop-i-test.true in
    laying-more c.loop-i.invariant (number_bytes _) _ left c.put-at.ensures

pub returns : goal.returns
returns c =
    laying-all c.loop-i.invariant (no_bytes (no_run c.args.first c.args.count c.loop-i.i c.loop-i-test.false))
