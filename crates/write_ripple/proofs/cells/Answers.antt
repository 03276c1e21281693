-- `write_ripple::cells` meets its contract: in a turn the bytes of a cell come first of those left. Assumes nothing.
use Rattle.std.proofs.Common.{ℕ, ◌+◌, ◌*◌, ◌<◌, ◌≡◌, ◌++◌, ap, arith}
use Rattle.meaning.specs.Layout.{each, number_bytes}
use Rattle.meaning.specs.Adder.{ripple_adder}
use Rattle.laws.specs.Adder.Numbers.{cells_numbers}
use Rattle.write_pieces.specs.Laying.{laying-none, laying-room, laying-more, laying-all}
use Rattle.write_pieces.specs.Encoding.{bytes-of-piece, no_bytes}
use Rattle.write_ripple.proofs.CellNumbers.{cells_from, cell_of, small-cell, all-cells, rest-of-cells, no_cells}
use Rattle.write_ripple.proofs.cells.Goals as goal

next : (n i carry_in : ℕ) → i < n
    → each number_bytes (cells_from n i carry_in)
    ≡ each number_bytes (cell_of n i carry_in) ++ each number_bytes (cells_from n (i + 1) (3 * n + 1 + i))
next n i carry_in inside = bytes-of-piece _ _ (rest-of-cells n i carry_in inside)

pub loop-i-init : goal.loop-i-init
unfolding ripple_adder cells_numbers
loop-i-init c = (
  omega arith,
  laying-none c.args.bytes.now c.args.at (ap (each number_bytes) (all-cells c.args.width)) c.requires.1.fits,
)

pub put_list-at-requires : goal.put_list-at-requires
put_list-at-requires c =
    let n = c.args.width in
    let loop = c.loop-i in
    let left = next n loop.i loop.carry_in c.loop-i-test.true in (
      small-cell n loop.i loop.carry_in c.requires.0 c.loop-i-test.true loop.invariant.0,
      omega (arith, laying-room loop.invariant.1 (each number_bytes (cell_of n loop.i loop.carry_in)) _ left),
    )

pub loop-i-preserved : goal.loop-i-preserved
loop-i-preserved c =
    let loop = c.loop-i in
    (omega arith, laying-more loop.invariant.1 _ _ (next c.args.width loop.i loop.carry_in c.loop-i-test.true) c.put_list-at.ensures)

pub returns : goal.returns
unfolding ripple_adder cells_numbers
returns c =
    let loop = c.loop-i in
    laying-all loop.invariant.1 (no_bytes (no_cells c.args.width loop.i loop.carry_in c.loop-i-test.false))
