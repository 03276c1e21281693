-- `parts::control` meets its contract: pieces put one behind the other are the module's numbers. Assumes nothing.
use Prim.Native.Nat.{◌≤◌}
use native.Mathlib.Omega.{arith}
use lib.ListN.{length}
use Rattle.meaning.specs.Layout.{each, occurrence_numbers, module_numbers}
use Rattle.bytes_out.specs.Puts.{put-more}
use Rattle.write_cells.proofs.parts.control.Goals as goal

pub copy-generate-requires : goal.copy-generate-requires
unfolding module_numbers occurrence_numbers each
copy-generate-requires c = omega arith

pub copy-pass_and-requires : goal.copy-pass_and-requires
unfolding module_numbers occurrence_numbers each
copy-pass_and-requires c = omega arith

pub copy-shifted_in-requires : goal.copy-shifted_in-requires
unfolding module_numbers occurrence_numbers each
copy-shifted_in-requires c = omega arith

pub copy-requires : goal.copy-requires
unfolding module_numbers occurrence_numbers each
copy-requires c = omega arith

pub returns : goal.returns
unfolding module_numbers occurrence_numbers each
returns c =
    let fits : c.args.at ≤ length c.args.bytes.now = omega (arith, c.requires) in
    let two = put-more c.copy-generate.ensures fits c.copy-pass_and.ensures in
    put-more (put-more two fits c.copy-shifted_in.ensures) fits c.copy.ensures
