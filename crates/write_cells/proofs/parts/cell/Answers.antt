-- `parts::cell` meets its contract: pieces put one behind the other are the module's numbers. Assumes nothing.
use Prim.Native.Nat.{◌≤◌}
use native.Mathlib.Omega.{arith}
use lib.ListN.{length}
use Rattle.meaning.specs.Layout.{each, occurrence_numbers, module_numbers}
use Rattle.bytes_out.specs.Puts.{put-more}
use Rattle.write_cells.proofs.parts.cell.Goals as goal

pub copy-carries-requires : goal.copy-carries-requires
unfolding module_numbers occurrence_numbers each
copy-carries-requires c = omega arith

pub copy-either-requires : goal.copy-either-requires
unfolding module_numbers occurrence_numbers each
copy-either-requires c = omega arith

pub copy-requires : goal.copy-requires
unfolding module_numbers occurrence_numbers each
copy-requires c = omega arith

pub returns : goal.returns
unfolding module_numbers occurrence_numbers each
returns c =
    let fits : c.args.at ≤ length c.args.bytes.now = omega (arith, c.requires) in
    put-more (put-more c.copy-carries.ensures fits c.copy-either.ensures) fits c.copy.ensures
