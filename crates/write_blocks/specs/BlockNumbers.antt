-- The numbers of the blocks: of the block that joins two, in the order in which they are written, and of one block after the other.
use Rattle.std.specs.Prelude.{ℕ, zero, suc, ◌+◌, ◌*◌, ◌-◌, ◌^◌, ◌≤◌, ◌<◌, ◌≡◌, refl, List, [], ◌++◌, length}
use Rattle.std.proofs.Common.{add-suc, add-one, arith, append-nil, length-append}
use Rattle.meaning.specs.Layout.{each, occurrence_numbers, module_numbers}
use Rattle.meaning.specs.Adder.{up_from}
use Rattle.meaning.specs.Counter.{gate_on, AND, XOR, choose, block_number, pair_block, join_block, block, blocks}
use Rattle.laws.specs.Lists.{each_append}
use Rattle.write_pieces.specs.Heads.{head_numbers, row_to_row}
use Rattle.write_pieces.specs.HeadNumbers.{numbers-of_module}
use Rattle.write_blocks.specs.Choices.{choice_numbers, length-of-choose}

pub number-above : (level : ℕ) → 1 ≤ level → block_number level ≡ 32 + level
unfolding block_number
number-above zero some = absurd (omega arith)
number-above (suc j) some = omega arith

-- The block of level j + 1, where `half` is 2^j and `number` refers to the block of level j.
abbrev pub join_numbers : (j half number : ℕ) → List ℕ
join_numbers j half number =
    let low = 2 * half in
    let high = low + j + 1 in
    let ands = high + j + 1 in
    let ors = ands + j in
    let top = ors + j in
    head_numbers (33 + j) (up_from 0 low) (up_from ors (j + 2)) (2 * j + 4)
    ++ (occurrence_numbers (row_to_row low (j + 1) number 0 half)
    ++ (occurrence_numbers (row_to_row high (j + 1) number half half)
    ++ (choice_numbers (high + j) high low ands ors j
    ++ (occurrence_numbers (gate_on (top + 1) AND (high + j) (low + j))
    ++ occurrence_numbers (gate_on top XOR (high + j) (top + 1))))))

occurrences-of-join : (j : ℕ) → length (join_block j).occurrences ≡ 2 * j + 4
unfolding join_block
occurrences-of-join j =
    let low = 2 * 2 ^ j in
    let high = low + suc j in
    let ands = high + suc j in
    let ors = ands + j in
    rw (length-append (choose (high + j) high low ands ors j), length-of-choose (high + j) high low ands ors j) (omega arith)

pub numbers-of-join : (j half number : ℕ) → half ≡ 2 ^ j → number ≡ block_number j
    → module_numbers (join_block j) ≡ join_numbers j half number
unfolding join_block each
numbers-of-join j half number size refers =
    rw (numbers-of_module (join_block j), occurrences-of-join j, size, refers)
    (simp (add-one, add-suc, each_append, append-nil))

-- The block of level 1, and any above.
pub first_block : (j : ℕ) → j ≡ 0 → block j ≡ pair_block
unfolding block
first_block j e = rw e

pub block-above : (j : ℕ) → (j ≡ 0 → ⊥) → block j ≡ join_block j
unfolding block
block-above zero some = absurd (some refl)
block-above (suc j) some = refl

-- What is left of the blocks once the largest are laid.
pub rest-of-blocks : (left : ℕ) → 0 < left
    → each module_numbers (blocks left) ≡ module_numbers (block (left - 1)) ++ each module_numbers (blocks (left - 1))
unfolding blocks each
rest-of-blocks zero some = absurd (omega arith)
rest-of-blocks (suc j) some =
    let one_less : suc j - 1 ≡ j = omega arith in
    rw one_less

pub no_blocks : (left : ℕ) → left ≤ 0 → each module_numbers (blocks left) ≡ []
unfolding blocks each
no_blocks left none =
    let end : left ≡ 0 = omega arith in
    rw end

pub length-of-blocks : (level : ℕ) → length (blocks level) ≡ level
unfolding blocks
length-of-blocks zero = refl
length-of-blocks (suc j) = rw (length-of-blocks j)
