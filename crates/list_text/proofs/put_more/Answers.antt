-- There is room for each number's word, which goes behind those that stand there.
use Rattle.std.proofs.Common.{arith, ◌<◌, ◌^◌, get_or, length-set}
use Rattle.meaning.specs.Listing.{space}
use Rattle.list_text.specs.Rows.{word}
use Rattle.list_text.proofs.Pieces.{put_byte, put-after}
use Rattle.list_text.proofs.Rows.{row-begin, row_more}
use Rattle.list_text.proofs.Numbers.{number_spellable, number_put, word_room}
use Rattle.list_text.proofs.put_more.Goals as goal

pub loop-number-init : goal.loop-number-init
loop-number-init c = row-begin word c.args.numbers.now c.args.out.now c.args.from (omega arith)

pub bounds-out-at : goal.bounds-out-at
bounds-out-at c = omega (arith, word_room c.loop-number.invariant c.requires c.loop-number-test.true)

pub put_number-at-requires : goal.put_number-at-requires
put_number-at-requires c =
    let room = word_room c.loop-number.invariant c.requires c.loop-number-test.true in
    let small : get_or c.args.numbers.now c.loop-number.number-index 0 < 2 ^ 64 = omega (arith, c.type_inv.numbers c.loop-number.number-index) in
    number_spellable small (simp length-set (omega arith))

pub loop-number-preserved : goal.loop-number-preserved
loop-number-preserved c =
    let room = word_room c.loop-number.invariant c.requires c.loop-number-test.true in
    let small : get_or c.args.numbers.now c.loop-number.number-index 0 < 2 ^ 64 = omega (arith, c.type_inv.numbers c.loop-number.number-index) in
    row_more c.loop-number.invariant c.loop-number-test.true
    (put-after (put_byte space c.loop-number.out c.loop-number.at (omega arith))
    (number_put c.put_number-at.ensures small (simp length-set (omega arith))))
