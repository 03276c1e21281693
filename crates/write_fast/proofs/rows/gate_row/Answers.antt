-- `rows::gate_row` meets its contract: in a turn the bytes of a gate come first of those left. Assumes nothing.
use Rattle.std.proofs.Common.{ℕ, ◌+◌, ◌<◌, ◌≡◌, ◌++◌, ap, arith}
use Rattle.meaning.specs.Layout.{each, number_bytes}
use Rattle.write_pieces.specs.Laying.{laying-none, laying-room, laying-more, laying-all}
use Rattle.write_pieces.specs.Encoding.{bytes-of-piece, no_bytes}
use Rattle.write_ahead.proofs.Smalls.{all_small}
use Rattle.write_fast.proofs.RowNumbers.{gate_at, row_from, whole_row, rest-of-row, no_row}
use Rattle.write_fast.proofs.rows.gate_row.Goals as goal

next : (kind net a b count i : ℕ) → i < count
    → each number_bytes (row_from kind net a b count i)
    ≡ each number_bytes (gate_at kind net a b i) ++ each number_bytes (row_from kind net a b count (i + 1))
next kind net a b count i some = bytes-of-piece _ _ (rest-of-row kind net a b count i some)

pub loop-i-init : goal.loop-i-init
loop-i-init c =
    let a = c.args in
    laying-none a.bytes.now a.at (ap (each number_bytes) (whole_row a.kind a.net a.a a.b a.count)) c.requires.4.fits

pub put_list-at-requires : goal.put_list-at-requires
put_list-at-requires c =
    let a = c.args in
    let i = c.loop-i.i in
    let left = next a.kind a.net a.a a.b a.count i c.loop-i-test.true in (
      all_small _ (omega arith, (omega arith, (omega arith, (omega arith, (omega arith, (omega arith, tt)))))),
      omega (arith, laying-room c.loop-i.invariant (each number_bytes (gate_at a.kind a.net a.a a.b i)) _ left),
    )

pub loop-i-preserved : goal.loop-i-preserved
loop-i-preserved c =
    let a = c.args in
    laying-more c.loop-i.invariant _ _ (next a.kind a.net a.a a.b a.count c.loop-i.i c.loop-i-test.true) c.put_list-at.ensures

pub returns : goal.returns
returns c =
    let a = c.args in
    laying-all c.loop-i.invariant (no_bytes (no_row a.kind a.net a.a a.b a.count c.loop-i.i c.loop-i-test.false))
