-- `carries::join` meets its contract: the two occurrences, put one behind the other. Assumes nothing.
use Rattle.std.proofs.Common.{arith}
use Rattle.write_pieces.specs.Laying.{laying-start, laying-left, laying-put, laying-last, room-first}
use Rattle.write_ahead.proofs.Smalls.{all_small}
use Rattle.write_ahead.proofs.Pieces.{bytes-of-join}
use Rattle.write_ahead.proofs.carries.join.Goals as goal

pub put_list-makes-requires : goal.put_list-makes-requires
put_list-makes-requires c =
    let a = c.args in
    let none = laying-start (rw (bytes-of-join a.width a.p a.x a.y a.z) at c.requires.5) in (
      all_small _ (omega arith, (omega arith, (omega arith, (omega arith, (omega arith, (omega arith, (omega arith, tt))))))),
      room-first _ (laying-left none),
    )

pub over_two-requires : goal.over_two-requires
over_two-requires c =
    let a = c.args in
    let none = laying-start (rw (bytes-of-join a.width a.p a.x a.y a.z) at c.requires.5) in (
      c.requires.0,
      omega arith,
      omega arith,
      omega arith,
      omega arith,
      laying-left (laying-put c.put_list-makes.ensures none),
    )

pub returns : goal.returns
returns c =
    let a = c.args in
    let none = laying-start (rw (bytes-of-join a.width a.p a.x a.y a.z) at c.requires.5) in
    rw (bytes-of-join a.width a.p a.x a.y a.z)
    (laying-last c.over_two.ensures (laying-put c.put_list-makes.ensures none))
