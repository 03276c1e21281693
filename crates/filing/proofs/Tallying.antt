-- The outputs of a block of words are added to the table as the words' shelves; block after block makes the table of the sequence.
use Prim.Native.Nat.{ℕ, ◌+◌, ◌*◌, ◌-◌, ◌≤◌}
use mathlib.Core.Path.{◌≡◌, sym, ap, ◌∙◌}
use mathlib.Core.List.{List, map, map-append}
use native.Mathlib.Omega.{arith}
use native.Mathlib.Nat.{min-le_right}
use lib.ListN.{length, take, drop, get_or, replicate, length-map, length-take, length-drop, length-replicate, get_or-replicate}
use lib.Seq.{length-take-le}
use Rattle.meaning.specs.Filing.{shelf_of, word_count, words_from, words_of, table_of, how_many}
use Rattle.laws.specs.Filing.Sequences.{length-of-words_from, words_from-add, words_from-front}
use Rattle.laws.specs.Filing.Tables.{add_each, add_each-append, length-of-add_each, entry-of-add_each, add_each-makes, how_many-most}
use Rattle.laws.specs.Filing.Counting.{words-short, shelves_bytes, length-of_shelves}
use Rattle.filing.specs.Running.{Roomy}
use Rattle.filing.specs.Reading.{shelves_in, Addable}
use Rattle.filing.proofs.Blocks.{shelf-inside, shelves_read}

module _
    (bases outputs : List ℕ) (n : ℕ) (few : n ≤ 16)
    (is : take (word_count n (length bases) * 6) outputs ≡ shelves_bytes (words_from (word_count n (length bases)) n bases))
  where
    words : List (List ℕ)
    words = words_from (word_count n (length bases)) n bases

    many : length words ≡ word_count n (length bases)
    unfolding words
    many = length-of-words_from (word_count n (length bases)) n bases

    own : take (length words * 6) outputs ≡ shelves_bytes words
    unfolding words
    own = ap (λ (k : ℕ). take (k * 6) outputs) many ∙ is

    pub shelves_of-words : shelves_in (word_count n (length bases)) outputs ≡ map shelf_of (words_from (word_count n (length bases)) n bases)
    unfolding words
    shelves_of-words =
        ap (λ (k : ℕ). shelves_in k outputs) (sym many)
        ∙ shelves_read words outputs (words-short (word_count n (length bases)) n bases few) own

    pub addable-words : {table : List ℕ} → Roomy table → word_count n (length bases) ≤ 1024 → Addable (word_count n (length bases)) outputs table
    unfolding words
    addable-words {table} roomy most =
        record {
          whole = roomy.whole;
          long =
              omega (
                arith,
                ap length is,
                length-of_shelves words,
                many,
                length-take (word_count n (length bases) * 6) outputs,
                min-le_right (word_count n (length bases) * 6) (length outputs),
              );
          inside = λ i h.
              omega (
                arith,
                roomy.whole,
                shelf-inside words outputs (words-short (word_count n (length bases)) n bases few) own i (omega (arith, many)),
              );
          few = λ k h. omega (arith, roomy.few k (omega (arith, roomy.whole)));
        }

-- After some words the table has room for more,
pub roomy-table :
    (sequence : List ℕ) (n done : ℕ) (table : List ℕ) → done ≤ 65535
    → table ≡ add_each (map shelf_of (words_from done n sequence)) (replicate 33 0)
    → Roomy table
roomy-table sequence n done table most is =
    let shelves = map shelf_of (words_from done n sequence) in
    let many : length shelves ≡ done = length-map (words_from done n sequence) shelf_of ∙ length-of-words_from done n sequence in
    let whole : length table ≡ 33 = ap length is ∙ length-of-add_each shelves (replicate 33 0) ∙ length-replicate {A = ℕ} 33 0 in
    record {
      whole = whole;
      few = λ k h.
          let entry : get_or table k 0 ≡ get_or (replicate {A = ℕ} 33 0) k 0 + how_many k shelves =
          ap (λ (l : List ℕ). get_or l k 0) is ∙ entry-of-add_each shelves (replicate 33 0) k (omega (arith, length-replicate {A = ℕ} 33 0)) in
          omega (arith, entry, get_or-replicate {A = ℕ} 33 k 0 0 h, how_many-most k shelves, many);
    }

-- a block more makes the table of so many words more,
pub block_more :
    (sequence table start : List ℕ) (n done some m : ℕ) → 1 ≤ n → m + 1 ≡ some + n → done + m ≤ length sequence
    → table ≡ add_each (map shelf_of (words_from done n sequence)) start
    → (after : List ℕ)
    → after ≡ add_each (map shelf_of (words_from (word_count n (length (take m (drop done sequence)))) n (take m (drop done sequence)))) table
    → after ≡ add_each (map shelf_of (words_from (done + some) n sequence)) start
block_more sequence table start n done some m one reach inside is after next =
    let long : length (take m (drop done sequence)) ≡ m = length-take-le m (drop done sequence) (omega (arith, length-drop done sequence)) in
    let count : word_count n (length (take m (drop done sequence))) ≡ some = omega (arith, long) in
    let first = words_from done n sequence in
    let second = words_from some n (drop done sequence) in
    next
    ∙ ap (λ (k : ℕ). add_each (map shelf_of (words_from k n (take m (drop done sequence)))) table) count
    ∙ ap (λ (l : List (List ℕ)). add_each (map shelf_of l) table) (words_from-front some n m (drop done sequence) one (omega arith))
    ∙ ap (add_each (map shelf_of second)) is
    ∙ sym (add_each-append (map shelf_of first) (map shelf_of second) start)
    ∙ ap (λ (l : List ℕ). add_each l start) (sym (map-append shelf_of first second))
    ∙ ap (λ (l : List (List ℕ)). add_each (map shelf_of l) start) (sym (words_from-add done some n sequence))

-- and all words make that of the sequence.
pub all_blocks :
    (sequence table : List ℕ) (n done : ℕ) → done ≡ word_count n (length sequence)
    → table ≡ add_each (map shelf_of (words_from done n sequence)) (replicate 33 0)
    → table ≡ table_of (map shelf_of (words_of n sequence))
unfolding words_of
all_blocks sequence table n done all is =
    is
    ∙ ap (λ (k : ℕ). add_each (map shelf_of (words_from k n sequence)) (replicate 33 0)) all
    ∙ add_each-makes (map shelf_of (words_from (word_count n (length sequence)) n sequence))
