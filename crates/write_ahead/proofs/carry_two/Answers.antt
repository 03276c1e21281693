-- `write_ahead::carry_two` meets its contract: pieces put one behind the other are the module's numbers. Assumes nothing.
use Prim.Native.Nat.{◌≤◌}
use native.Mathlib.Omega.{arith}
use lib.ListN.{length}
use Rattle.meaning.specs.Layout.{each, occurrence_numbers, module_numbers}
use Rattle.bytes_out.specs.Puts.{put-more}
use Rattle.write_ahead.proofs.carry_two.Goals as goal

pub copy-makes-requires : goal.copy-makes-requires
unfolding module_numbers occurrence_numbers each
copy-makes-requires c = omega arith

pub copy-passes-requires : goal.copy-passes-requires
unfolding module_numbers occurrence_numbers each
copy-passes-requires c = omega arith

pub copy-either-requires : goal.copy-either-requires
unfolding module_numbers occurrence_numbers each
copy-either-requires c = omega arith

pub copy-requires : goal.copy-requires
unfolding module_numbers occurrence_numbers each
copy-requires c = omega arith

pub returns : goal.returns
unfolding module_numbers occurrence_numbers each
returns c =
    let fits : c.args.at ≤ length c.args.bytes.now = omega (arith, c.requires) in
    let two = put-more c.copy-makes.ensures fits c.copy-passes.ensures in
    put-more (put-more two fits c.copy-either.ensures) fits c.copy.ensures
