-- After so many rows the table is that of their shelves.
use Prim.Native.Nat.{◌-◌, ◌≤◌}
use mathlib.Core.Path.{◌≡◌, refl, ap, ◌∙◌}
use native.Mathlib.Omega.{arith}
use Rattle.laws.specs.Filing.Tables.{add_each}
use Rattle.filing.specs.Reading.{shelves_in}
use Rattle.filing.proofs.Adding.{index-inside, count_fits, one-shelf-more, table_kept}
use Rattle.filing.proofs.shelves.add_shelves.Statement.{statement}
use Rattle.filing.proofs.shelves.add_shelves.Tie as tie

abbrev invariant-loop : tie.invariant-loop-i
invariant-loop rows outputs table₀ i₀ table i = (i ≤ rows) × (table ≡ add_each (shelves_in i outputs) table₀)

abbrev decreases-loop : tie.decreases-loop-i
decreases-loop rows outputs table₀ i₀ table i = rows - i

loop-holds : tie.Need-loop-i-init invariant-loop decreases-loop
unfolding add_each shelves_in
loop-holds c = (omega arith, refl)

mul-shelf-at : tie.Need-overflow_mul-i invariant-loop decreases-loop
mul-shelf-at c = omega (arith, c.requires.long)

shelf-at-requires : tie.Need-shelf_at-shelf-requires invariant-loop decreases-loop
shelf-at-requires c κs = omega (arith, c.requires.long)

mul-table : tie.Need-offset_bounds-table-shelf invariant-loop decreases-loop
mul-table c =
    let l = c.loop-i in
    omega (arith, c.requires.whole, table_kept c.args.outputs.now c.args.table.now l.table l.i l.invariant.1, index-inside c.requires l.table l.i _ c.loop-i-test.true l.invariant.1 c.shelf_at-shelf.ensures)

slice-read-table : tie.Need-bounds-table-shelf invariant-loop decreases-loop
slice-read-table c =
    let l = c.loop-i in
    index-inside c.requires l.table l.i _ c.loop-i-test.true l.invariant.1 c.shelf_at-shelf.ensures

add-table : tie.Need-overflow_add-table invariant-loop decreases-loop
add-table c =
    let l = c.loop-i in
    omega (arith, count_fits c.requires l.table l.i _ c.loop-i-test.true l.invariant.1 c.shelf_at-shelf.ensures)

mul-table-2 : tie.Need-offset_bounds-table-shelf-in-loop-i invariant-loop decreases-loop
mul-table-2 c =
    let l = c.loop-i in
    omega (arith, c.requires.whole, table_kept c.args.outputs.now c.args.table.now l.table l.i l.invariant.1, index-inside c.requires l.table l.i _ c.loop-i-test.true l.invariant.1 c.shelf_at-shelf.ensures)

slice-write-table : tie.Need-bounds-table-shelf-in-loop-i invariant-loop decreases-loop
slice-write-table c =
    let l = c.loop-i in
    index-inside c.requires l.table l.i _ c.loop-i-test.true l.invariant.1 c.shelf_at-shelf.ensures

add-i : tie.Need-overflow_step-i invariant-loop decreases-loop
add-i c = omega arith

loop-less : tie.Need-loop-i-smaller invariant-loop decreases-loop
loop-less c = omega arith

loop-again : tie.Need-loop-i-preserved invariant-loop decreases-loop
loop-again c =
    let l = c.loop-i in (
      omega arith,
      one-shelf-more c.requires l.table l.i _ c.loop-i-test.true l.invariant.1 c.shelf_at-shelf.ensures,
    )

same_length : tie.Need-shape_of-table invariant-loop decreases-loop
same_length c =
    let l = c.loop-i in
    table_kept c.args.outputs.now c.args.table.now l.table l.i l.invariant.1

returns : tie.Need-returns invariant-loop decreases-loop
returns c =
    let l = c.loop-i in
    let all : l.i ≡ c.args.rows = omega arith in
    l.invariant.1 ∙ ap (λ n. add_each (shelves_in n c.args.outputs.now) c.args.table.now) all

pub add_shelves_spec : {M : Type 1} → statement M
add_shelves_spec =
    tie.close
    (tie.spec
    invariant-loop
    decreases-loop
    loop-holds
    mul-shelf-at
    shelf-at-requires
    mul-table
    slice-read-table
    add-table
    mul-table-2
    slice-write-table
    add-i
    loop-less
    loop-again
    same_length
    returns)
