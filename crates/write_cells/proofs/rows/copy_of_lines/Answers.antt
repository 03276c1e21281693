-- `rows::copy_of_lines` meets its contract: in a turn the bytes of a buffer come first of those left. Assumes nothing.
use Rattle.std.proofs.Common.{ℕ, ◌+◌, ◌<◌, ◌≡◌, ◌++◌, ap, arith}
use Rattle.meaning.specs.Layout.{each, number_bytes}
use Rattle.write_pieces.specs.Laying.{laying-none, laying-room, laying-more, laying-all}
use Rattle.write_pieces.specs.Encoding.{bytes-of-piece, no_bytes}
use Rattle.write_ahead.proofs.Smalls.{all_small}
use Rattle.write_cells.proofs.Occurrences.{buffer_at, buffers_from, all_buffers, rest-of_buffers, no_buffers}
use Rattle.write_cells.proofs.rows.copy_of_lines.Goals as goal

next : (lines net i : ℕ) → i < 6
    → each number_bytes (buffers_from lines net 6 i)
    ≡ each number_bytes (buffer_at lines net i) ++ each number_bytes (buffers_from lines net 6 (i + 1))
next lines net i some = bytes-of-piece _ _ (rest-of_buffers lines net 6 i some)

pub loop-i-init : goal.loop-i-init
loop-i-init c =
    let a = c.args in
    laying-none a.bytes.now a.at (ap (each number_bytes) (all_buffers a.lines a.net 6)) c.requires.2.fits

pub put_list-at-requires : goal.put_list-at-requires
put_list-at-requires c =
    let a = c.args in
    let i = c.loop-i.i in
    let left = next a.lines a.net i c.loop-i-test.true in (
      all_small _ (omega arith),
      omega (arith, laying-room c.loop-i.invariant (each number_bytes (buffer_at a.lines a.net i)) _ left),
    )

pub loop-i-preserved : goal.loop-i-preserved
loop-i-preserved c =
    laying-more c.loop-i.invariant _ _ (next c.args.lines c.args.net c.loop-i.i c.loop-i-test.true) c.put_list-at.ensures

pub returns : goal.returns
returns c =
    laying-all c.loop-i.invariant (no_bytes (no_buffers c.args.lines c.args.net 6 c.loop-i.i c.loop-i-test.false))
