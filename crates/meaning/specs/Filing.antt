-- The filing product (request M-113): which shelf a word of bases goes to, and how many words of a long sequence go to each shelf.
use Rattle.std.specs.Prelude.{ℕ, zero, suc, ◌+◌, ◌-◌, ◌/◌, ◌%◌, Bool, false, cond, List, [], ◌∷◌, ◌++◌, map, eqb, leb, ltb, length, take, drop, replicate}
use Rattle.meaning.specs.Adder.{up_from, bit}
use Rattle.meaning.specs.Counter.{leading_zeros}
use Rattle.meaning.specs.Calls.{Decision, refusal, answer, demand}

-- The capitals A C G T are 0 1 2 3; every other byte is no base, and has the number 4.
unfoldable pub base : (byte : ℕ) → ℕ
base byte = cond (eqb byte 65) 0 (cond (eqb byte 67) 1 (cond (eqb byte 71) 2 (cond (eqb byte 84) 3 4)))

-- The index of the first byte that is no base; the count of bytes where there is none.
unfoldable pub first_other : List ℕ → ℕ
first_other [] = 0
first_other (byte ∷ bytes) = cond (ltb (base byte) 4) (suc (first_other bytes)) 0

-- Two bits for each base, low first. The first base of a word is the highest.
abbrev pub base_bits : (byte : ℕ) → List Bool
base_bits byte = eqb (base byte % 2) 1 ∷ eqb (base byte / 2 % 2) 1 ∷ []

unfoldable pub word_bits : List ℕ → List Bool
word_bits [] = []
word_bits (byte ∷ word) = word_bits word ++ base_bits byte

-- They stand in the low end of 32 bits,
unfoldable pub word_in32 : List ℕ → List Bool
word_in32 word = word_bits word ++ replicate (32 - length (word_bits word)) false

-- and the shelf is the leading zeros of these.
unfoldable pub shelf_of : List ℕ → ℕ
shelf_of word = leading_zeros (word_in32 word)

-- The words of so many bases in a sequence, overlapping ones included: one from each base on, as long as there are enough.
unfoldable pub words_from : (count length : ℕ) → List ℕ → List (List ℕ)
words_from zero n sequence = []
words_from (suc count) n sequence = take n sequence ∷ words_from count n (drop 1 sequence)

abbrev pub word_count : (length : ℕ) → (sequence : ℕ) → ℕ
word_count n sequence = sequence + 1 - n

unfoldable pub words_of : (length : ℕ) → List ℕ → List (List ℕ)
words_of n sequence = words_from (word_count n (length sequence)) n sequence

-- How many of the shelves are one shelf; and the table of this for each of the shelves 0 to 32.
unfoldable pub how_many : (shelf : ℕ) → List ℕ → ℕ
how_many shelf [] = 0
how_many shelf (s ∷ shelves) = bit (eqb s shelf) + how_many shelf shelves

abbrev pub shelf_count : ℕ
shelf_count = 33

unfoldable pub table_of : (shelves : List ℕ) → List ℕ
table_of shelves = map (λ shelf. how_many shelf shelves) (up_from 0 shelf_count)

-- Refusals, in this order: 30 word length outside 1 to 16; 32 sequence over 65,535 bytes; 34 table not of 33 entries; 31 a byte other
-- than the four capitals, place the first.
abbrev pub most_bases : ℕ
most_bases = 16

abbrev pub most_sequence : ℕ
most_sequence = 65535

abbrev pub if_word_length : {R : Type 0} → (length : ℕ) → Decision R → Decision R
if_word_length n next = demand 30 0 (leb 1 n) (demand 30 0 (leb n most_bases) next)

abbrev pub if_bases : {R : Type 0} → List ℕ → Decision R → Decision R
if_bases bytes next = demand 31 (first_other bytes) (eqb (first_other bytes) (length bytes)) next

-- A word, and its shelf.
unfoldable pub filing_word : (word : List ℕ) → Decision ℕ
filing_word word = if_word_length (length word) (if_bases word (answer (shelf_of word)))

-- A sequence, and what is filled in of it: the table, and how many words there were.
pub record Filed : Type 0 where
  pub table : List ℕ
  pub words : ℕ

abbrev pub filed_from : (length : ℕ) → List ℕ → Filed
filed_from n sequence = record { table = table_of (map shelf_of (words_of n sequence)); words = length (words_of n sequence) }

unfoldable pub filing_sequence : (sequence : List ℕ) (length : ℕ) (table : ℕ) → Decision Filed
filing_sequence sequence n table =
    if_word_length n
    (demand 32 0 (leb (length sequence) most_sequence)
    (demand 34 0 (eqb table shelf_count)
    (if_bases sequence (answer (filed_from n sequence)))))

-- The table is overwritten by an answer and unchanged by a refusal.
abbrev pub table_after : Decision Filed → List ℕ → List ℕ
table_after (refusal number place) table = table
table_after (answer filed) table = filed.table
