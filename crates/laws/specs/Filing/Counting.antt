-- The written counter of width 32 on words: a block of words, each laid as its 32 bits, is answered, and of each word the outputs write its
-- shelf.
use Rattle.std.specs.Prelude.{ℕ, zero, suc, ◌+◌, ◌*◌, ◌≤◌, ◌≡◌, refl, Bool, true, false, cond, List, [], ◌∷◌, ◌++◌, map, leb, length, take, drop}
use Rattle.std.proofs.Common.{ap, ap₂, ◌∙◌, arith, suc-mul, length-append, length-take, take_at, drop_at}
use Rattle.std.proofs.Math.Nat.{min-le_left}
use Rattle.std.proofs.lemmas.List.{length-map}
use Rattle.meaning.specs.Lists.{All, none, more}
use Rattle.meaning.specs.Values.{floating, code}
use Rattle.meaning.specs.Evaluation.{evaluate}
use Rattle.meaning.specs.Layout.{each, file_numbers, module_numbers, occurrence_numbers, number_bytes, encode}
use Rattle.meaning.specs.Figures.{room, largest_referred}
use Rattle.meaning.specs.Adder.{up_from, bit, binary}
use Rattle.meaning.specs.Counter.{choose, block_number, join_block, block, blocks, digits_within, digits, join_parts, last_count, counter_module, counter}
use Rattle.meaning.specs.Limits.{driven, net_count}
use Rattle.meaning.specs.Calls.{answer, Written, first_above, evaluation, writing}
use Rattle.meaning.specs.Rows.{most_rows, rows_of, row_outputs, rows_evaluation}
use Rattle.laws.specs.RowBlocks.{Counted, answered, length-of-row}
use Rattle.laws.specs.Counter.Figures.{counter-first, counter-inputs, counter-outputs}
use Rattle.laws.specs.Counter.Outputs.{counter-on-known}
use Rattle.laws.specs.Demands.Terms.{RunReads}
use Rattle.laws.specs.Demands.Bits.{values-of-bits, codes_of-known, bits_small}
use Rattle.laws.specs.Demands.Writers.{counter-module}
use Rattle.laws.specs.Demands.Second.{written-counters-count}
use Rattle.laws.specs.Filing.Words.{length-of-word_in32}
use Rattle.meaning.specs.Filing.{word_in32, shelf_of, words_from, most_bases}

pub room-of-counter : room (counter 32) 32 ≡ 158
unfolding
    room largest_referred driven net_count up_from choose block_number join_block block blocks digits_within digits join_parts last_count
    counter_module counter
room-of-counter = refl

pub bytes-of-counter : length (encode (counter 32)) ≡ 478
unfolding
    encode file_numbers module_numbers occurrence_numbers each number_bytes up_from choose block_number join_block block blocks digits_within
    digits join_parts last_count counter_module counter
bytes-of-counter = refl

pub outputs-of-counter : length (digits 32) ≡ 6
unfolding digits_within digits
outputs-of-counter = refl

-- What a word is laid as, and what the counter makes of it.
abbrev pub row_values : List ℕ → List ℕ
row_values word = map bit (word_in32 word)

unfoldable pub shelf_bytes : List ℕ → List ℕ
shelf_bytes word = row_outputs (counter 32) 32 (row_values word)

abbrev pub Short : List ℕ → Type 0
Short word = length word ≤ most_bases

-- Six bits, low first, that write the shelf.
pub record WritesShelf (word : List ℕ) : Type 0 where
  pub bits : List Bool
  pub count : length bits ≡ 6
  pub reads : binary bits ≡ shelf_of word
  pub are : shelf_bytes word ≡ map bit bits

pub writes-shelf : (word : List ℕ) → Short word → WritesShelf word
unfolding shelf_bytes shelf_of
writes-shelf word few =
    let zeros = counter-on-known 32 (omega arith) (word_in32 word) (length-of-word_in32 word few) in
    record {
      bits = zeros.bits;
      count = zeros.count ∙ outputs-of-counter;
      reads = zeros.reads;
      are =
          ap (λ vs. map code (evaluate (counter 32) 32 vs)) (values-of-bits (word_in32 word))
          ∙ ap (map code) zeros.known-bits
          ∙ codes_of-known zeros.bits;
    }

-- One word, over the calls: running the file that the writer writes gives its shelf.
pub run-gives-shelf :
    (word : List ℕ) → Short word
    → (size : ℕ) (w : Written) → writing counter 32 size ≡ answer w
    → (scratch out : ℕ) → 158 ≤ scratch → 6 ≤ out
    → RunReads (evaluation w.bytes 32 (row_values word) scratch out) 6 (shelf_of word)
unfolding shelf_of
run-gives-shelf word few size w wrote scratch out roomy fits =
    rw outputs-of-counter at
    (written-counters-count 32 size w wrote (word_in32 word) (length-of-word_in32 word few) scratch out
    (omega (arith, room-of-counter)) (omega (arith, outputs-of-counter)))

-- The values of a block of words,
abbrev pub values_of : List (List ℕ) → List ℕ
values_of words = each row_values words

pub length-of-values : (words : List (List ℕ)) → All Short words → length (values_of words) ≡ length words * 32
unfolding each
length-of-values [] none = refl
length-of-values (word ∷ words) (more few rest) =
    length-append (row_values word) (values_of words)
    ∙ omega (
      arith,
      length-map (word_in32 word) bit,
      length-of-word_in32 word few,
      length-of-values words rest,
      suc-mul (length words) 32,
    )

small-behind : (xs ys : List ℕ) → first_above xs ≡ length xs → first_above (xs ++ ys) ≡ length xs + first_above ys
unfolding first_above
small-behind [] ys h = omega arith
small-behind (x ∷ xs) ys h = go (leb x floating) h (small-behind xs ys)
  where
    go :
        (b : Bool) → cond b (suc (first_above xs)) 0 ≡ suc (length xs)
        → (first_above xs ≡ length xs → first_above (xs ++ ys) ≡ length xs + first_above ys)
        → cond b (suc (first_above (xs ++ ys))) 0 ≡ suc (length xs) + first_above ys
    go true e rest = omega (arith, rest (omega arith))
    go false e rest = absurd (omega arith)

values-small : (words : List (List ℕ)) → first_above (values_of words) ≡ length (values_of words)
unfolding each first_above
values-small [] = refl
values-small (word ∷ words) =
    small-behind (row_values word) (values_of words) (bits_small (word_in32 word))
    ∙ omega (arith, values-small words, length-append (row_values word) (values_of words))

-- whose rows are the words',
rows-of-words :
    (f : List ℕ → List ℕ) (words : List (List ℕ)) → All Short words
    → each f (rows_of (length words) 32 (values_of words)) ≡ each (λ word. f (row_values word)) words
unfolding each rows_of
rows-of-words f [] none = refl
rows-of-words f (word ∷ words) (more few rest) =
    let long : length (row_values word) ≡ 32 = length-map (word_in32 word) bit ∙ length-of-word_in32 word few in
    ap₂ ◌++◌
    (ap f (take_at (row_values word) (values_of words) 32 long))
    (ap (λ (l : List ℕ). each f (rows_of (length words) 32 l)) (drop_at (row_values word) (values_of words) 32 long)
    ∙ rows-of-words f words rest)

-- and the bytes that running the block writes: six for each word.
unfoldable pub shelves_bytes : List (List ℕ) → List ℕ
shelves_bytes words = each shelf_bytes words

pub length-of_shelves : (words : List (List ℕ)) → length (shelves_bytes words) ≡ length words * 6
unfolding shelves_bytes shelf_bytes each
length-of_shelves [] = refl
length-of_shelves (word ∷ words) =
    let six : length (shelf_bytes word) ≡ 6 =
    length-of-row (counter 32) 32 (counter-first 32) (row_values word) ∙ counter-outputs 32 ∙ outputs-of-counter in
    length-append (shelf_bytes word) (shelves_bytes words) ∙ omega (arith, six, length-of_shelves words, suc-mul (length words) 6)

pub block-answered :
    (words : List (List ℕ)) → All Short words → length words ≤ most_rows
    → (scratch out : ℕ) → 158 ≤ scratch → length words * 6 ≤ out
    → rows_evaluation (encode (counter 32)) 32 (length words) (values_of words) scratch out
    ≡ answer (record { bytes = shelves_bytes words; cleared = room (counter 32) 32 })
unfolding shelves_bytes shelf_bytes
block-answered words short few scratch out roomy fits =
    let inputs : length (counter_module 32).inputs ≡ 32 = counter-inputs 32 in
    let outputs : length (counter_module 32).outputs ≡ 6 = counter-outputs 32 ∙ outputs-of-counter in
    let b : Counted (encode (counter 32)) 32 (length words) (values_of words) =
    record {
      ms = counter 32;
      m = counter_module 32;
      here = counter-module 32 (omega arith) (omega arith);
      few = few;
      fed = rw inputs (length-of-values words short);
    } in
    answered b scratch out (values-small words) (omega (arith, room-of-counter)) (rw outputs fits)
    ∙ ap (λ (l : List ℕ). answer (record { bytes = l; cleared = room (counter 32) 32 }))
    (ap (λ (k : ℕ). each (row_outputs (counter 32) 32) (rows_of (length words) k (values_of words))) inputs
    ∙ rows-of-words (row_outputs (counter 32) 32) words short)

-- Words of a sequence are short.
pub words-short : (count n : ℕ) (sequence : List ℕ) → n ≤ most_bases → All Short (words_from count n sequence)
unfolding words_from
words-short zero n sequence few = none
words-short (suc count) n sequence few =
    let short : Short (take n sequence) = omega (arith, length-take n sequence, min-le_left n (length sequence)) in
    more short (words-short count n (drop 1 sequence) few)
