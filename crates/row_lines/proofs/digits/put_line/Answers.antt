-- A value's digit goes behind those that stand there, and the line feed behind all.
use Rattle.std.proofs.Common.{arith, ◌<◌, length}
use Rattle.meaning.specs.Listing.{line_feed}
use Rattle.list_text.proofs.Pieces.{put_byte, put-after}
use Rattle.list_text.proofs.Rows.{row-begin, row_more, row-end}
use Rattle.row_lines.specs.Digits.{digit, line_text}
use Rattle.row_lines.proofs.digits.put_line.Goals as goal

pub loop-value-init : goal.loop-value-init
loop-value-init c = (omega arith, row-begin digit c.args.row.now c.args.out.now c.args.from (omega arith))

pub loop-value-preserved : goal.loop-value-preserved
loop-value-preserved c =
    let l = c.loop-value in
    let inside : l.at < length l.out = omega (arith, l.invariant.0) in
    (omega (arith, l.invariant.0), row_more l.invariant.1 c.loop-value-test.true (put_byte _ l.out l.at inside))

pub returns : goal.returns
unfolding line_text
returns c =
    let l = c.loop-value in
    put-after (row-end l.invariant.1 c.loop-value-test.false) (put_byte line_feed l.out l.at (omega (arith, l.invariant.0)))
