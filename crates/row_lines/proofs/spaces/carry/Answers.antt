-- Nothing is moved from no place; a byte more goes behind those that were.
use Rattle.std.proofs.Common.{◌≡◌, ◌-◌, arith}
use Rattle.list_text.proofs.Pieces.{put-nothing}
use Rattle.row_lines.proofs.Moving.{moved_more, nowhere, outside, there}
use Rattle.row_lines.proofs.spaces.carry.Goals as goal

pub returns-then-to-from : goal.returns-then-to-from
returns-then-to-from c = rw (nowhere _ _ _ c.if-to-from.true) (put-nothing _ 0 (omega arith))

pub returns-then-text-to : goal.returns-then-text-to
returns-then-text-to c = rw (outside _ _ _ c.if-text-to.true) (put-nothing _ 0 (omega arith))

pub loop-i-init : goal.loop-i-init
loop-i-init c = put-nothing _ 0 (omega arith)

pub loop-i-preserved : goal.loop-i-preserved
loop-i-preserved c = let l = c.loop-i in moved_more c.args.text.now l.text c.args.from l.i (omega arith) l.invariant

pub returns : goal.returns
returns c =
    let l = c.loop-i in
    let all : l.i ≡ c.args.to - c.args.from = omega arith in
    rw (there c.args.from c.args.to c.args.text.now (omega arith) (omega arith)) (rw all at l.invariant)
