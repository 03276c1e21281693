-- `rows::copies` meets its contract: in a turn the bytes of a copy come first of those left. Assumes nothing.
use Rattle.std.proofs.Common.{ℕ, ◌+◌, ◌*◌, ◌<◌, ◌≡◌, ◌++◌, ap, arith}
use Rattle.meaning.specs.Layout.{each, number_bytes}
use Rattle.write_pieces.specs.Laying.{laying-none, laying-room, laying-more, laying-all}
use Rattle.write_pieces.specs.Encoding.{bytes-of-piece, no_bytes}
use Rattle.write_cells.proofs.Occurrences.{copy_list, copies_from, whole-copies, rest-of-copies, no_copies}
use Rattle.write_cells.proofs.rows.copies.Goals as goal

next : (lines net count i : ℕ) → i < count
    → each number_bytes (copies_from lines net count i)
    ≡ each number_bytes (copy_list lines (net + 6 * i)) ++ each number_bytes (copies_from lines net count (i + 1))
next lines net count i some = bytes-of-piece _ _ (rest-of-copies lines net count i some)

pub loop-i-init : goal.loop-i-init
loop-i-init c =
    let a = c.args in
    laying-none a.bytes.now a.at (ap (each number_bytes) (whole-copies a.lines a.net a.count)) c.requires.3.fits

pub copy_of_lines-at-requires : goal.copy_of_lines-at-requires
copy_of_lines-at-requires c =
    let a = c.args in
    let i = c.loop-i.i in
    let left = next a.lines a.net a.count i c.loop-i-test.true in (
      c.requires.0,
      omega arith,
      omega (arith, laying-room c.loop-i.invariant (each number_bytes (copy_list a.lines (a.net + 6 * i))) _ left),
    )

pub loop-i-preserved : goal.loop-i-preserved
loop-i-preserved c =
    let a = c.args in
    laying-more c.loop-i.invariant _ _ (next a.lines a.net a.count c.loop-i.i c.loop-i-test.true) c.copy_of_lines-at.ensures

pub returns : goal.returns
returns c =
    let a = c.args in
    laying-all c.loop-i.invariant (no_bytes (no_copies a.lines a.net a.count c.loop-i.i c.loop-i-test.false))
