-- `rows::look_ahead` meets its contract: its two lists, put one behind the other. Assumes nothing.
use Rattle.std.proofs.Common.{arith}
use Rattle.write_pieces.specs.Laying.{laying-start, laying-left, laying-put, laying-last, room-first}
use Rattle.write_ahead.proofs.Pieces.{bytes-of-ahead}
use Rattle.write_ahead.proofs.rows.look_ahead.Goals as goal

pub carries-number-requires : goal.carries-number-requires
carries-number-requires c =
    let a = c.args in
    let none = laying-start (rw (bytes-of-ahead a.width a.carry a.first) at c.requires.3) in
    (c.requires.0, c.requires.1, room-first _ (laying-left none))

pub carry_and_bits-requires : goal.carry_and_bits-requires
carry_and_bits-requires c =
    let a = c.args in
    let none = laying-start (rw (bytes-of-ahead a.width a.carry a.first) at c.requires.3) in
    let pre = c.requires in
    (omega arith, pre.0, pre.1, pre.2, laying-left (laying-put c.carries-number.ensures none))

pub returns : goal.returns
returns c =
    let a = c.args in
    let none = laying-start (rw (bytes-of-ahead a.width a.carry a.first) at c.requires.3) in
    rw (bytes-of-ahead a.width a.carry a.first)
    (laying-last c.carry_and_bits.ensures (laying-put c.carries-number.ensures none))
