-- `write_fast::fast_head` meets its contract: its pieces, put one behind the other. Assumes nothing.
use native.Mathlib.Omega.{arith}
use Rattle.write_pieces.specs.Laying.{laying-start, laying-left, laying-put, laying-last, room-first}
use Rattle.write_ahead.proofs.Smalls.{all_small}
use Rattle.write_fast.proofs.FastBytes.{bytes-of-head}
use Rattle.write_fast.proofs.fast_head.Goals as goal

pub carry_and_bits-outputs-requires : goal.carry_and_bits-outputs-requires
carry_and_bits-outputs-requires c =
    (omega arith, c.requires.0, omega arith, omega arith, room-first _ (rw (bytes-of-head c.args.width) at c.requires.1))

pub put_list-sums-requires : goal.put_list-sums-requires
put_list-sums-requires c =
    let one = laying-put c.carry_and_bits-outputs.ensures (laying-start (rw (bytes-of-head c.args.width) at c.requires.1)) in
    (all_small _ (omega arith, tt), room-first _ (laying-left one))

pub put_run-last-requires : goal.put_run-last-requires
put_run-last-requires c =
    let one = laying-put c.carry_and_bits-outputs.ensures (laying-start (rw (bytes-of-head c.args.width) at c.requires.1)) in
    (omega arith, room-first _ (laying-left (laying-put c.put_list-sums.ensures one)))

pub put_list-requires : goal.put_list-requires
put_list-requires c =
    let one = laying-put c.carry_and_bits-outputs.ensures (laying-start (rw (bytes-of-head c.args.width) at c.requires.1)) in (
      all_small _ (omega arith, (omega arith, tt)),
      laying-left (laying-put c.put_run-last.ensures (laying-put c.put_list-sums.ensures one)),
    )

pub returns : goal.returns
returns c =
    let one = laying-put c.carry_and_bits-outputs.ensures (laying-start (rw (bytes-of-head c.args.width) at c.requires.1)) in
    rw (bytes-of-head c.args.width)
    (laying-last c.put_list.ensures (laying-put c.put_run-last.ensures (laying-put c.put_list-sums.ensures one)))
