-- The written leading-zero counter of width n (docs/COUNTER.md draws it): module 32, which the bits enter, and the blocks that it is
-- made of, modules 33 and on. The block of level j counts 2^j bits: it answers the zeros above their highest 1 in j count bits, low
-- first, all 0 where there is no 1, and last "empty", which says that there is none. Read as one number of j + 1 bits that is
-- the leading zeros of 2^j bits.
use Rattle.std.specs.Prelude.{ℕ, zero, suc, ◌+◌, ◌*◌, ◌-◌, ◌^◌, ◌/◌, ◌%◌, Bool, true, false, cond, List, [], ◌∷◌, ◌++◌, reverse, eqb, length}
use Rattle.meaning.specs.Syntax.{Occurrence, Module}
use Rattle.meaning.specs.Adder.{up_from}

-- What a counter counts: the zeros that stand first in a list,
unfoldable pub zeros_first : List Bool → ℕ
zeros_first [] = 0
zeros_first (true ∷ bs) = 0
zeros_first (false ∷ bs) = suc (zeros_first bs)

-- and of bits, low first, the zeros above the highest 1, or all if there is none.
unfoldable pub leading_zeros : List Bool → ℕ
leading_zeros bs = zeros_first (reverse bs)

-- A gate of two arguments, and the kinds in use.
abbrev pub gate_on : (net kind a b : ℕ) → Occurrence
gate_on net kind a b = record { drives = net ∷ []; refers = kind; takes = a ∷ b ∷ [] }

abbrev pub NOT : ℕ
NOT = 1

abbrev pub OR : ℕ
OR = 5

abbrev pub XOR : ℕ
XOR = 9

abbrev pub AND : ℕ
AND = 10

abbrev pub NOR : ℕ
NOR = 13

-- Count bits of a high and a low part, one bit after the other: the high part's, or the low one's where the high part is empty. There
-- the high part's are 0, so that each is OR(high, AND(empty, low)).
unfoldable pub choose : (empty high low ands ors count : ℕ) → List Occurrence
choose empty high low ands ors zero = []
choose empty high low ands ors (suc n) =
    gate_on ands AND empty low
    ∷ gate_on ors OR high ands
    ∷ choose empty (suc high) (suc low) (suc ands) (suc ors) n

-- The number that refers to the block of a level. One bit has no count bits and is empty when it is not 1: that block is B-NOT.
unfoldable pub block_number : ℕ → ℕ
block_number zero = NOT
block_number (suc j) = 33 + j

-- The block of level 1: two bits are empty when neither is 1, and their count is 1 when the high one is 0 and they are not empty.
abbrev pub pair_block : Module
pair_block =
    record {
      number = 33;
      inputs = 0 ∷ 1 ∷ [];
      outputs = 2 ∷ 3 ∷ [];
      occurrences = gate_on 3 NOR 0 1 ∷ gate_on 2 NOR 1 3 ∷ [];
    }

-- The block of level j + 1 from two of level j, on the low and on the high half of its bits. It is empty when both halves are, and
-- its top count bit is 1 when the high half is empty and the block is not.
unfoldable pub join_block : ℕ → Module
join_block j =
    let low = 2 * 2 ^ j in
    let high = low + suc j in
    let ands = high + suc j in
    let ors = ands + j in
    let top = ors + j in
    record {
      number = 33 + j;
      inputs = up_from 0 low;
      outputs = up_from ors (j + 2);
      occurrences =
          record { drives = up_from low (suc j); refers = block_number j; takes = up_from 0 (2 ^ j) }
          ∷ record { drives = up_from high (suc j); refers = block_number j; takes = up_from (2 ^ j) (2 ^ j) }
          ∷ (choose (high + j) high low ands ors j
          ++ (gate_on (suc top) AND (high + j) (low + j) ∷ gate_on top XOR (high + j) (suc top) ∷ []));
    }

-- The block of level j + 1, and the blocks up to a level, the largest first.
unfoldable pub block : ℕ → Module
block zero = pair_block
block (suc j) = join_block (suc j)

unfoldable pub blocks : ℕ → List Module
blocks zero = []
blocks (suc j) = block j ∷ blocks j

-- The binary digits of a number, low first, up to its highest 1; at most as many as said, and n has at most n.
unfoldable pub digits_within : (most n : ℕ) → List Bool
digits_within zero n = []
digits_within (suc k) n = cond (eqb n 0) [] (eqb (n % 2) 1 ∷ digits_within k (n / 2))

unfoldable pub digits : ℕ → List Bool
digits n = digits_within n n

-- The parts of a word of width n, from the low end: for each digit 1 of n, at level j, the next 2^j bits are a block. The `bits` bits
-- below it are fewer, and are counted in `count` bits on the nets from `below` on. So over both the count is the block's or, where
-- the block is empty, 2^j more than the count below. The block's count bits from `count` on and its "empty" pass as they are: they
-- lie on the nets of the new count, behind the ORs.
unfoldable pub join_parts : (level bits count below : ℕ) → (digits : List Bool) → List Occurrence
join_parts j bits count below [] = []
join_parts j bits count below (false ∷ ds) = join_parts (suc j) bits count below ds
join_parts j bits count below (true ∷ ds) =
    let high = below + count in
    let ands = high + count in
    let ors = ands + count in
    record {
      drives = up_from high count ++ up_from (ors + count) (suc j - count);
      refers = block_number j;
      takes = up_from bits (2 ^ j);
    }
    ∷ (choose (ors + j) high below ands ors count ++ join_parts (suc j) (bits + 2 ^ j) (suc j) ors ds)

-- The first net of the last count.
unfoldable pub last_count : (level count below : ℕ) → (digits : List Bool) → ℕ
last_count j count below [] = below
last_count j count below (false ∷ ds) = last_count (suc j) count below ds
last_count j count below (true ∷ ds) = last_count (suc j) (suc j) (below + count + count + count) ds

-- Module 32: inputs 0 to n - 1, low bit first; its outputs are the last count, low bit first, as many as n has binary digits.
unfoldable pub counter_module : ℕ → Module
counter_module n =
    record {
      number = 32;
      inputs = up_from 0 n;
      outputs = up_from (last_count 0 0 n (digits n)) (length (digits n));
      occurrences = join_parts 0 0 0 n (digits n);
    }

unfoldable pub counter : ℕ → List Module
counter n = counter_module n ∷ blocks (length (digits n) - 1)
