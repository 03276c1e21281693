-- `rows::cells` meets its contract. The loop's invariant: the cells that are laid and those that are left make all. Assumes nothing.
use Prim.Native.Nat.{◌+◌, ◌-◌}
use native.Mathlib.Omega.{arith}
use mathlib.Core.Path.{◌≡◌, ap}
use mathlib.Core.List.{◌++◌}
use Rattle.meaning.specs.Layout.{each, occurrence_numbers, number_bytes}
use Rattle.meaning.specs.Alu.{cells}
use Rattle.bytes_out.specs.Laying.{Laying}
use Rattle.write_pieces.specs.Laying.{laying-none, laying-length, laying-room, laying-more, laying-all}
use Rattle.write_pieces.specs.Encoding.{bytes-of-piece, no_bytes}
use Rattle.write_cells.specs.Lists.{cell_list}
use Rattle.write_cells.proofs.Occurrences.{cells_from, whole_cells, rest-of-cells, no_cells}
use Rattle.write_cells.proofs.rows.cells.Statement.{statement}
use Rattle.write_cells.proofs.rows.cells.Tie as tie

abbrev invariant-loop : tie.invariant-loop-i
invariant-loop width copied bytes₀ at at₀ i₀ bytes at' i =
    Laying (each number_bytes (each occurrence_numbers (cells width copied 0 width)))
    (each number_bytes (cells_from width copied i))
    bytes₀ at bytes at'

abbrev decreases-loop : tie.decreases-loop-i
decreases-loop width copied bytes₀ at at₀ i₀ bytes at' i = width - i

loop-holds : tie.Need-loop-i-init invariant-loop decreases-loop
loop-holds c =
    let a = c.args in
    laying-none a.bytes.now a.at (ap (each number_bytes) (whole_cells a.width a.copied)) c.requires.2.fits

-- In a turn the bytes of a cell come first of those left.
next : (c : tie.In-loop-i invariant-loop decreases-loop)
    → (let a = c.args in
    let i = c.loop-i.i in
    each number_bytes (cells_from a.width a.copied i)
    ≡ each number_bytes (cell_list a.width a.copied i) ++ each number_bytes (cells_from a.width a.copied (i + 1)))
next c =
    let a = c.args in
    bytes-of-piece _ _ (rest-of-cells a.width a.copied c.loop-i.i c.loop-i-test.true)

cell-at-requires : tie.Need-cell_at-at-requires invariant-loop decreases-loop
cell-at-requires c κs =
    let loop = c.loop-i in
    let a = c.args in (
      c.requires.0,
      c.requires.1,
      omega (arith, c.requires.0, c.loop-i-test.true),
      omega (arith, laying-room loop.invariant (each number_bytes (cell_list a.width a.copied loop.i)) _ (next c.before)),
    )

loop-again : tie.Need-loop-i-preserved invariant-loop decreases-loop
loop-again c =
    laying-more c.loop-i.invariant _ _ (next c.before.before.before.before) c.cell_at-at.ensures

returns : tie.Need-returns invariant-loop decreases-loop
returns c =
    let a = c.args in
    laying-all c.loop-i.invariant (no_bytes (no_cells a.width a.copied c.loop-i.i c.loop-i-test.false))

pub cells_spec : {M : Type 1} → statement M
cells_spec =
    tie.close
    (tie.spec
    invariant-loop
    decreases-loop
    loop-holds
    cell-at-requires
    (λ c. omega arith)
    (λ c. omega arith)
    loop-again
    (λ c. laying-length c.loop-i.invariant)
    returns)
