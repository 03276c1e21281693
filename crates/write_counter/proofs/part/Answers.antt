-- `write_counter::part` meets its contract: pieces put one behind the other are the part's numbers. Assumes nothing.
use Rattle.std.proofs.Common.{ℕ, ◌≤◌, ◌≡◌, ◌^◌, true, List, [], ◌∷◌, arith}
use Rattle.meaning.specs.Counter.{block_number}
use Rattle.bytes_out.specs.Laying.{Laying}
use Rattle.write_pieces.specs.Rooms.{Room}
use Rattle.write_pieces.specs.Laying.{laying-start, laying-left, laying-put, laying-last, room-first}
use Rattle.write_pieces.specs.Runs.{room_for_run}
use Rattle.write_counter.proofs.PartNumbers.{parts_numbers, part_numbers, numbers-of-part}
use Rattle.write_counter.proofs.part.Goals as goal

-- Nothing is laid, and there is room for all.
start : {size number : ℕ} {bytes : List ℕ} {at : ℕ} (level bits count below : ℕ) → size ≡ 2 ^ level → number ≡ block_number level
    → count ≤ level
    → Room (parts_numbers level bits count below (true ∷ [])) bytes at
    → Laying (part_numbers level bits count below size number) (part_numbers level bits count below size number) bytes at bytes at
start {size} {number} level bits count below is refers few room =
    laying-start (rw (numbers-of-part level bits count below size number is refers few) at room)

pub copy-low_bits-requires : goal.copy-low_bits-requires
copy-low_bits-requires c =
    let a = c.args in
    let none = start a.level a.bits a.count a.below c.bits_of-size.ensures.0 c.block_number-block.ensures c.requires.2 c.requires.4 in
    omega (arith, laying-left none)

pub run-rest-requires : goal.run-rest-requires
run-rest-requires c =
    let a = c.args in
    let none = start a.level a.bits a.count a.below c.bits_of-size.ensures.0 c.block_number-block.ensures c.requires.2 c.requires.4 in
    (omega arith, room_for_run _ _ _ (laying-left (laying-put c.copy-low_bits.ensures none)))

pub run-number-requires : goal.run-number-requires
run-number-requires c =
    let a = c.args in
    let none = start a.level a.bits a.count a.below c.bits_of-size.ensures.0 c.block_number-block.ensures c.requires.2 c.requires.4 in
    let two = laying-put c.run-rest.ensures (laying-put c.copy-low_bits.ensures none) in
    (omega arith, room_for_run _ _ _ (laying-left two))

pub copy-taken-requires : goal.copy-taken-requires
copy-taken-requires c =
    let a = c.args in
    let none = start a.level a.bits a.count a.below c.bits_of-size.ensures.0 c.block_number-block.ensures c.requires.2 c.requires.4 in
    let two = laying-put c.run-rest.ensures (laying-put c.copy-low_bits.ensures none) in
    omega (arith, laying-left (laying-put c.run-number.ensures two))

pub row-choice-requires : goal.row-choice-requires
row-choice-requires c =
    let a = c.args in
    let none = start a.level a.bits a.count a.below c.bits_of-size.ensures.0 c.block_number-block.ensures c.requires.2 c.requires.4 in
    let two = laying-put c.run-rest.ensures (laying-put c.copy-low_bits.ensures none) in
    let four = laying-put c.copy-taken.ensures (laying-put c.run-number.ensures two) in
    (omega (arith, c.requires, c.bits_of-size.ensures), room-first _ (laying-left four))

pub choose-requires : goal.choose-requires
choose-requires c =
    let a = c.args in
    let none = start a.level a.bits a.count a.below c.bits_of-size.ensures.0 c.block_number-block.ensures c.requires.2 c.requires.4 in
    let two = laying-put c.run-rest.ensures (laying-put c.copy-low_bits.ensures none) in
    let four = laying-put c.copy-taken.ensures (laying-put c.run-number.ensures two) in
    let pre = c.requires in
    (omega arith, omega arith, omega arith, omega arith, laying-left (laying-put c.row-choice.ensures four))

pub returns : goal.returns
returns c =
    let a = c.args in
    let none = start a.level a.bits a.count a.below c.bits_of-size.ensures.0 c.block_number-block.ensures c.requires.2 c.requires.4 in
    let two = laying-put c.run-rest.ensures (laying-put c.copy-low_bits.ensures none) in
    let four = laying-put c.copy-taken.ensures (laying-put c.run-number.ensures two) in
    rw (numbers-of-part a.level a.bits a.count a.below _ _ c.bits_of-size.ensures.0 c.block_number-block.ensures c.requires.2)
    (laying-last c.choose.ensures (laying-put c.row-choice.ensures four))
