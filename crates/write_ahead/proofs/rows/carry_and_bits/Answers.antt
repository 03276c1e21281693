-- `rows::carry_and_bits` meets its contract: the first numbers and the row behind them. Assumes nothing.
use Rattle.std.proofs.Common.{arith}
use Rattle.write_pieces.specs.Laying.{laying-start, laying-left, laying-put, laying-last, room-first}
use Rattle.write_ahead.proofs.Smalls.{all_small}
use Rattle.write_ahead.proofs.Pieces.{bytes-of-carry-and-bits}
use Rattle.write_ahead.proofs.rows.carry_and_bits.Goals as goal

pub put_list-bits-requires : goal.put_list-bits-requires
put_list-bits-requires c =
    let a = c.args in
    let none = laying-start (rw (bytes-of-carry-and-bits a.number a.width a.carry a.first) at c.requires.4) in
    (all_small _ (omega arith, (omega arith, (omega arith, tt))), room-first _ (laying-left none))

pub put_run-requires : goal.put_run-requires
put_run-requires c =
    let a = c.args in
    let none = laying-start (rw (bytes-of-carry-and-bits a.number a.width a.carry a.first) at c.requires.4) in
    (omega arith, laying-left (laying-put c.put_list-bits.ensures none))

pub returns : goal.returns
returns c =
    let a = c.args in
    let none = laying-start (rw (bytes-of-carry-and-bits a.number a.width a.carry a.first) at c.requires.4) in
    rw (bytes-of-carry-and-bits a.number a.width a.carry a.first)
    (laying-last c.put_run.ensures (laying-put c.put_list-bits.ensures none))
