-- `rows::carries` meets its contract: the count and the list, put one behind the other. Assumes nothing.
use Rattle.std.proofs.Common.{arith}
use Rattle.write_pieces.specs.Laying.{laying-start, laying-left, laying-put, laying-last, room-first}
use Rattle.write_ahead.proofs.Smalls.{all_small}
use Rattle.write_ahead.proofs.Pieces.{bytes-of-carries}
use Rattle.write_ahead.proofs.rows.carries.Goals as goal

pub put_list-first-requires : goal.put_list-first-requires
put_list-first-requires c =
    let none = laying-start (rw (bytes-of-carries c.args.width c.args.carry) at c.requires.2) in
    (all_small _ (omega arith, tt), room-first _ (laying-left none))

pub put_run-requires : goal.put_run-requires
put_run-requires c =
    let none = laying-start (rw (bytes-of-carries c.args.width c.args.carry) at c.requires.2) in
    (omega arith, laying-left (laying-put c.put_list-first.ensures none))

pub returns : goal.returns
returns c =
    let none = laying-start (rw (bytes-of-carries c.args.width c.args.carry) at c.requires.2) in
    rw (bytes-of-carries c.args.width c.args.carry)
    (laying-last c.put_run.ensures (laying-put c.put_list-first.ensures none))
