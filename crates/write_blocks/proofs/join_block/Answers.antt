-- `write_blocks::join_block` meets its contract: pieces put one behind the other are the module's numbers. Assumes nothing.
use Rattle.std.proofs.Common.{ℕ, ◌≡◌, ◌^◌, List, arith}
use Rattle.meaning.specs.Layout.{module_numbers}
use Rattle.meaning.specs.Counter.{join_block, block_number}
use Rattle.bytes_out.specs.Laying.{Laying}
use Rattle.write_pieces.specs.Rooms.{Room}
use Rattle.write_pieces.specs.Laying.{laying-start, laying-left, laying-put, laying-last, room-first}
use Rattle.write_blocks.specs.BlockNumbers.{join_numbers, numbers-of-join}
use Rattle.write_blocks.proofs.join_block.Goals as goal

-- Nothing is laid, and there is room for all.
start : {half number : ℕ} {bytes : List ℕ} {at : ℕ} (j : ℕ) → half ≡ 2 ^ j → number ≡ block_number j → Room (module_numbers (join_block j)) bytes at
    → Laying (join_numbers j half number) (join_numbers j half number) bytes at bytes at
start {half} {number} j size refers room = laying-start (rw (numbers-of-join j half number size refers) at room)

pub head-low_half-requires : goal.head-low_half-requires
head-low_half-requires c =
    let none = start c.args.j c.bits_of-half.ensures.0 c.block_number-block.ensures c.requires.1 in
    (omega arith, room-first _ (laying-left none))

pub reference-high_half-requires : goal.reference-high_half-requires
reference-high_half-requires c =
    let none = start c.args.j c.bits_of-half.ensures.0 c.block_number-block.ensures c.requires.1 in
    let one = laying-put c.head-low_half.ensures none in
    (omega arith, omega arith, room-first _ (laying-left one))

pub reference-choice-requires : goal.reference-choice-requires
reference-choice-requires c =
    let none = start c.args.j c.bits_of-half.ensures.0 c.block_number-block.ensures c.requires.1 in
    let one = laying-put c.head-low_half.ensures none in
    (omega arith, omega arith, room-first _ (laying-left (laying-put c.reference-high_half.ensures one)))

pub choose-both-requires : goal.choose-both-requires
choose-both-requires c =
    let none = start c.args.j c.bits_of-half.ensures.0 c.block_number-block.ensures c.requires.1 in
    let two = laying-put c.reference-high_half.ensures (laying-put c.head-low_half.ensures none) in
    (omega arith, omega arith, omega arith, omega arith, room-first _ (laying-left (laying-put c.reference-choice.ensures two)))

pub gate-top_bit-requires : goal.gate-top_bit-requires
gate-top_bit-requires c =
    let none = start c.args.j c.bits_of-half.ensures.0 c.block_number-block.ensures c.requires.1 in
    let two = laying-put c.reference-high_half.ensures (laying-put c.head-low_half.ensures none) in
    room-first _ (laying-left (laying-put c.choose-both.ensures (laying-put c.reference-choice.ensures two)))

pub gate-requires : goal.gate-requires
gate-requires c =
    let none = start c.args.j c.bits_of-half.ensures.0 c.block_number-block.ensures c.requires.1 in
    let two = laying-put c.reference-high_half.ensures (laying-put c.head-low_half.ensures none) in
    let four = laying-put c.choose-both.ensures (laying-put c.reference-choice.ensures two) in
    laying-left (laying-put c.gate-top_bit.ensures four)

pub returns : goal.returns
returns c =
    let none = start c.args.j c.bits_of-half.ensures.0 c.block_number-block.ensures c.requires.1 in
    let two = laying-put c.reference-high_half.ensures (laying-put c.head-low_half.ensures none) in
    let four = laying-put c.choose-both.ensures (laying-put c.reference-choice.ensures two) in
    rw (numbers-of-join c.args.j _ _ c.bits_of-half.ensures.0 c.block_number-block.ensures)
    (laying-last c.gate.ensures (laying-put c.gate-top_bit.ensures four))
