-- `write_alu::flags` meets its contract: the two gates, put one behind the other. Assumes nothing.
use Rattle.std.proofs.Common.{arith}
use Rattle.write_pieces.specs.Laying.{laying-start, laying-left, laying-put, laying-last, room-first}
use Rattle.write_ahead.proofs.Smalls.{all_small}
use Rattle.write_alu.proofs.Occurrences.{bytes-of-flags}
use Rattle.write_alu.proofs.flags.Goals as goal

pub put_list-overflow-requires : goal.put_list-overflow-requires
put_list-overflow-requires c =
    let none = laying-start (rw (bytes-of-flags c.args.width) at c.requires.1) in
    (all_small _ (omega arith), room-first _ (laying-left none))

pub put_list-requires : goal.put_list-requires
put_list-requires c =
    let none = laying-start (rw (bytes-of-flags c.args.width) at c.requires.1) in
    (all_small _ (omega arith), laying-left (laying-put c.put_list-overflow.ensures none))

pub returns : goal.returns
returns c =
    let none = laying-start (rw (bytes-of-flags c.args.width) at c.requires.1) in
    rw (bytes-of-flags c.args.width)
    (laying-last c.put_list.ensures (laying-put c.put_list-overflow.ensures none))
