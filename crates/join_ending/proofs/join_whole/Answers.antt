-- The refusals of the joined file's extent, and the file made whole.
use Rattle.std.proofs.Common.{◌≤◌, arith, length}
use Rattle.join_ending.proofs.Assembles.{room_for_count, too_long, whole, whole_answers}
use Rattle.join_ending.proofs.join_whole.Goals as goal

pub returns-then-end-start-gt65535 : goal.returns-then-end-start-gt65535
returns-then-end-start-gt65535 c a =
    rw c.at-then-end-start-gt65535.ensures
    (too_long a (omega arith) (length c.args.out.now) c.args.out.now c.if-end-start-gt65535.true)

pub put-requires : goal.put-requires
put-requires c = (omega arith, room_for_count c.requires (omega arith))

pub deliver-requires : goal.deliver-requires
deliver-requires c = whole c.requires (omega arith) c.if-end-start-gt65535.false c.put.ensures

pub returns : goal.returns
returns c a =
    let few : c.args.all.modules ≤ 128 = omega arith in
    let short = c.if-end-start-gt65535.false in
    whole_answers a few short (length c.args.out.now) (c.deliver.ensures (whole a few short c.put.ensures))
