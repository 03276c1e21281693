-- A block of words: none of the library's refusals applies to its rows, and its outputs are read as the words' shelves.
use Prim.Native.Nat.{ℕ, zero, suc, ◌+◌, ◌*◌, ◌-◌, ◌≤◌, ◌<◌}
use mathlib.Core.Path.{◌≡◌, refl, sym, ap, ◌∙◌}
use mathlib.Core.Bool.{Bool}
use mathlib.Core.List.{List, [], ◌∷◌, ◌++◌, map, map-append}
use native.Mathlib.Omega.{arith}
use native.Mathlib.Nat.{add-zero, suc-mul}
use lib.ListN.{length, take, drop, get_or, length-append, length-take}
use lib.Seq.{take_at, drop_at, take_all, take-add, take-suc, length-take-le, get_or-take, get_or-drop}
use Rattle.meaning.specs.Lists.{All, none}
use Rattle.meaning.specs.Layout.{each}
use Rattle.meaning.specs.Adder.{bit, binary}
use Rattle.laws.specs.Lists.{all-at}
use Rattle.laws.specs.RowParts.{part, part-behind}
use Rattle.meaning.specs.Filing.{shelf_of, word_count, words_from}
use Rattle.laws.specs.Filing.Words.{shelf-most}
use Rattle.laws.specs.Filing.Sequences.{length-of-words_from}
use Rattle.laws.specs.Filing.Counting.{Short, words-short, values_of, shelf_bytes, shelves_bytes, length-of_shelves, writes-shelf}
use Rattle.filing.specs.Running.{Runnable, Block}
use Rattle.filing.specs.Reading.{six_bits, shelves_in}

abbrev pub runnable-words :
    (file bases values : List ℕ) (n outputs : ℕ) {bits whole : ℕ} → Block file (length bases) n bits whole outputs
    → values ≡ values_of (words_from (word_count n (length bases)) n bases)
    → Runnable file (length bases + 1 - n) values outputs
runnable-words file bases values n outputs b laid =
    let count : length bases + 1 - n ≡ b.layable.count = omega (arith, b.layable.words) in
    record {
      written = b.written;
      words = words_from (word_count n (length bases)) n bases;
      short = words-short (word_count n (length bases)) n bases b.layable.few;
      count = sym (length-of-words_from (word_count n (length bases)) n bases);
      few = omega (arith, count, b.layable.most);
      laid = laid;
      fits = omega (arith, count, b.fits);
    }

pub outputs-of-words :
    (bases outputs rest : List ℕ) (n : ℕ)
    → outputs ≡ shelves_bytes (words_from (word_count n (length bases)) n bases) ++ rest
    → take (word_count n (length bases) * 6) outputs ≡ shelves_bytes (words_from (word_count n (length bases)) n bases)
outputs-of-words bases outputs rest n is =
    let words = words_from (word_count n (length bases)) n bases in
    let long : length (shelves_bytes words) ≡ word_count n (length bases) * 6 =
    length-of_shelves words ∙ ap (λ (k : ℕ). k * 6) (length-of-words_from (word_count n (length bases)) n bases) in
    ap (take (word_count n (length bases) * 6)) is ∙ take_at (shelves_bytes words) rest (word_count n (length bases) * 6) long

-- Six bits are the number that they write.
six : (bits : List Bool) → length bits ≡ 6
    → get_or (map bit bits) 0 0 + 2 * get_or (map bit bits) 1 0 + 4 * get_or (map bit bits) 2 0
    + 8 * (get_or (map bit bits) 3 0 + 2 * get_or (map bit bits) 4 0 + 4 * get_or (map bit bits) 5 0)
    ≡ binary bits
unfolding binary
six [] h = absurd (omega arith)
six (a ∷ []) h = absurd (omega arith)
six (a ∷ b ∷ []) h = absurd (omega arith)
six (a ∷ b ∷ c ∷ []) h = absurd (omega arith)
six (a ∷ b ∷ c ∷ d ∷ []) h = absurd (omega arith)
six (a ∷ b ∷ c ∷ d ∷ e ∷ []) h = absurd (omega arith)
six (a ∷ b ∷ c ∷ d ∷ e ∷ f ∷ []) h = omega arith
six (a ∷ b ∷ c ∷ d ∷ e ∷ f ∷ g ∷ bits) h = absurd (omega arith)

at_part : (outputs : List ℕ) (i j : ℕ) → j < 6 → get_or outputs (i * 6 + j) 0 ≡ get_or (part 6 i outputs) j 0
at_part outputs i j h = sym (get_or-take 6 (drop (i * 6) outputs) j 0 h ∙ get_or-drop (i * 6) outputs j 0)

reads-part :
    (outputs word : List ℕ) (i : ℕ) → Short word → part 6 i outputs ≡ shelf_bytes word → six_bits outputs (i * 6) ≡ shelf_of word
reads-part outputs word i short is =
    let w = writes-shelf word short in
    let at : (j : ℕ) → j < 6 → get_or outputs (i * 6 + j) 0 ≡ get_or (map bit w.bits) j 0 =
    λ j h. at_part outputs i j h ∙ ap (λ (l : List ℕ). get_or l j 0) (is ∙ w.are) in
    let first : get_or outputs (i * 6) 0 ≡ get_or (map bit w.bits) 0 0 =
    ap (λ (k : ℕ). get_or outputs k 0) (sym (add-zero (i * 6))) ∙ at 0 (omega arith) in
    omega (
      arith,
      first,
      at 1 (omega arith),
      at 2 (omega arith),
      at 3 (omega arith),
      at 4 (omega arith),
      at 5 (omega arith),
      six w.bits w.count,
      w.reads,
    )

part-of_shelves :
    (words : List (List ℕ)) (outputs : List ℕ) (i : ℕ)
    → take (length words * 6) outputs ≡ shelves_bytes words
    → i < length words
    → part 6 i outputs ≡ shelf_bytes (get_or words i [])
unfolding shelves_bytes each
part-of_shelves [] outputs i is h = absurd (omega arith)
part-of_shelves (word ∷ words) outputs i is h = go i h (part-of_shelves words (drop 6 outputs))
  where
    own : length (shelf_bytes word) ≡ 6
    own = omega (arith, length-of_shelves (word ∷ []), length-append (shelf_bytes word) [])

    split : take 6 outputs ++ take (length words * 6) (drop 6 outputs) ≡ shelf_bytes word ++ each shelf_bytes words
    split =
        let count : suc (length words) * 6 ≡ 6 + length words * 6 = omega (arith, suc-mul (length words) 6) in
        sym (take-add 6 (length words * 6) outputs) ∙ ap (λ (k : ℕ). take k outputs) (sym count) ∙ is

    long : 6 ≤ length outputs
    long = omega (arith, ap length is, length-append (shelf_bytes word) (each shelf_bytes words), own, length-take (suc (length words) * 6) outputs)

    first : take 6 outputs ≡ shelf_bytes word
    first =
        sym (take_at (take 6 outputs) (take (length words * 6) (drop 6 outputs)) 6 (length-take-le 6 outputs long))
        ∙ ap (take 6) split
        ∙ take_at (shelf_bytes word) (each shelf_bytes words) 6 own

    rest : take (length words * 6) (drop 6 outputs) ≡ each shelf_bytes words
    rest =
        sym (drop_at (take 6 outputs) (take (length words * 6) (drop 6 outputs)) 6 (length-take-le 6 outputs long))
        ∙ ap (drop 6) split
        ∙ drop_at (shelf_bytes word) (each shelf_bytes words) 6 own

    go :
        (i : ℕ) → i < suc (length words)
        → ((k : ℕ) → take (length words * 6) (drop 6 outputs) ≡ each shelf_bytes words → k < length words → part 6 k (drop 6 outputs) ≡ shelf_bytes (get_or words k []))
        → part 6 i outputs ≡ shelf_bytes (get_or (word ∷ words) i [])
    go zero h later = first
    go (suc i) h later = part-behind 6 i outputs ∙ later i rest (omega arith)

module _
    (words : List (List ℕ)) (outputs : List ℕ) (short : All Short words) (is : take (length words * 6) outputs ≡ shelves_bytes words)
  where
    shelf-read : (i : ℕ) → i < length words → six_bits outputs (i * 6) ≡ shelf_of (get_or words i [])
    shelf-read i h =
        reads-part outputs (get_or words i []) i (all-at short i [] h) (part-of_shelves words outputs i is h)

    pub shelf-inside : (i : ℕ) → i < length words → six_bits outputs (i * 6) < 33
    shelf-inside i h = omega (arith, shelf-read i h, shelf-most (get_or words i []) (all-at short i [] h))

    so_far : (i : ℕ) → i ≤ length words → shelves_in i outputs ≡ map shelf_of (take i words)
    unfolding shelves_in
    so_far zero h = refl
    so_far (suc i) h =
        let inside : i < length words = omega arith in
        ap (λ (l : List ℕ). l ++ (six_bits outputs (i * 6) ∷ [])) (so_far i (omega arith))
        ∙ ap (λ (s : ℕ). map shelf_of (take i words) ++ (s ∷ [])) (shelf-read i inside)
        ∙ sym (ap (map shelf_of) (take-suc words i [] inside) ∙ map-append shelf_of (take i words) (get_or words i [] ∷ []))

    pub shelves_read : shelves_in (length words) outputs ≡ map shelf_of words
    shelves_read = so_far (length words) (omega arith) ∙ ap (map shelf_of) (take_all (length words) words (omega arith))
