-- `write_alu::alu_head` meets its contract: its pieces, put one behind the other. Assumes nothing.
use native.Mathlib.Omega.{arith}
use Rattle.write_pieces.specs.Laying.{laying-start, laying-left, laying-put, laying-last, room-first}
use Rattle.write_ahead.proofs.Smalls.{all_small}
use Rattle.write_alu.proofs.AluBytes.{bytes-of-head}
use Rattle.write_alu.proofs.alu_head.Goals as goal

pub put_list-a-requires : goal.put_list-a-requires
put_list-a-requires c =
    (all_small _ (omega arith), room-first _ (rw (bytes-of-head c.args.width c.args.copied) at c.requires.2))

pub put_run-b-requires : goal.put_run-b-requires
put_run-b-requires c =
    let one = laying-put c.put_list-a.ensures (laying-start (rw (bytes-of-head c.args.width c.args.copied) at c.requires.2)) in
    (omega arith, room-first _ (laying-left one))

pub put_run-outputs-requires : goal.put_run-outputs-requires
put_run-outputs-requires c =
    let one = laying-put c.put_list-a.ensures (laying-start (rw (bytes-of-head c.args.width c.args.copied) at c.requires.2)) in
    (omega arith, room-first _ (laying-left (laying-put c.put_run-b.ensures one)))

pub put_list-carry-requires : goal.put_list-carry-requires
put_list-carry-requires c =
    let one = laying-put c.put_list-a.ensures (laying-start (rw (bytes-of-head c.args.width c.args.copied) at c.requires.2)) in
    let three = laying-put c.put_run-outputs.ensures (laying-put c.put_run-b.ensures one) in
    (all_small _ (omega arith), room-first _ (laying-left three))

pub put_run-count-requires : goal.put_run-count-requires
put_run-count-requires c =
    let one = laying-put c.put_list-a.ensures (laying-start (rw (bytes-of-head c.args.width c.args.copied) at c.requires.2)) in
    let three = laying-put c.put_run-outputs.ensures (laying-put c.put_run-b.ensures one) in
    (omega (arith, c.requires.0), room-first _ (laying-left (laying-put c.put_list-carry.ensures three)))

pub put_list-requires : goal.put_list-requires
put_list-requires c =
    let one = laying-put c.put_list-a.ensures (laying-start (rw (bytes-of-head c.args.width c.args.copied) at c.requires.2)) in
    let three = laying-put c.put_run-outputs.ensures (laying-put c.put_run-b.ensures one) in
    let five = laying-put c.put_run-count.ensures (laying-put c.put_list-carry.ensures three) in
    (all_small _ (omega (arith, c.requires.0, c.requires.1)), laying-left five)

pub returns : goal.returns
returns c =
    let one = laying-put c.put_list-a.ensures (laying-start (rw (bytes-of-head c.args.width c.args.copied) at c.requires.2)) in
    let three = laying-put c.put_run-outputs.ensures (laying-put c.put_run-b.ensures one) in
    let five = laying-put c.put_run-count.ensures (laying-put c.put_list-carry.ensures three) in
    rw (bytes-of-head c.args.width c.args.copied) (laying-last c.put_list.ensures five)
