-- `write_alu::control_lines` meets its contract: its pieces, put one behind the other. Assumes nothing.
use Rattle.std.proofs.Common.{arith}
use Rattle.write_pieces.specs.Laying.{laying-start, laying-left, laying-put, laying-last, room-first}
use Rattle.write_ahead.proofs.Smalls.{all_small}
use Rattle.write_alu.proofs.Occurrences.{bytes-of-control}
use Rattle.write_alu.proofs.control_lines.Goals as goal

pub put_list-lines-requires : goal.put_list-lines-requires
put_list-lines-requires c =
    let none = laying-start (rw (bytes-of-control c.args.width) at c.requires.1) in
    (all_small _ (omega arith), room-first _ (laying-left none))

pub put_run-others-requires : goal.put_run-others-requires
put_run-others-requires c =
    let none = laying-start (rw (bytes-of-control c.args.width) at c.requires.1) in
    (omega arith, room-first _ (laying-left (laying-put c.put_list-lines.ensures none)))

pub put_list-operation-requires : goal.put_list-operation-requires
put_list-operation-requires c =
    let none = laying-start (rw (bytes-of-control c.args.width) at c.requires.1) in
    let two = laying-put c.put_run-others.ensures (laying-put c.put_list-lines.ensures none) in
    (all_small _ (omega arith), room-first _ (laying-left two))

pub put_run-requires : goal.put_run-requires
put_run-requires c =
    let none = laying-start (rw (bytes-of-control c.args.width) at c.requires.1) in
    let two = laying-put c.put_run-others.ensures (laying-put c.put_list-lines.ensures none) in
    (omega arith, laying-left (laying-put c.put_list-operation.ensures two))

pub returns : goal.returns
returns c =
    let none = laying-start (rw (bytes-of-control c.args.width) at c.requires.1) in
    let two = laying-put c.put_run-others.ensures (laying-put c.put_list-lines.ensures none) in
    rw (bytes-of-control c.args.width)
    (laying-last c.put_run.ensures (laying-put c.put_list-operation.ensures two))
