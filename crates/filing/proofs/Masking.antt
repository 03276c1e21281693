-- A row that is masked out of the bits of all bases is the row of its word.
use Prim.Native.Nat.{ℕ, zero, suc, ◌+◌, ◌*◌, ◌-◌, ◌≤◌, ◌<◌}
use mathlib.Core.Path.{◌≡◌, refl, sym, ap, ap₂, ◌∙◌}
use mathlib.Core.Bool.{Bool, true, false}
use mathlib.Core.List.{List, [], ◌∷◌, ◌++◌, map, map-append, append_assoc}
use native.Mathlib.Omega.{arith}
use borrow.Author.Tests.{ltb-true, ltb-false}
use lib.Dec.{ltb}
use lib.Bits.{bit_and, and_mask, and_zero_r}
use lib.ListN.{length, take, drop, get_or, replicate, length-drop, length-map, length-replicate, get_or-replicate, take-append-drop, get_or-append}
use lib.Seq.{take_at, drop_at, length-take-le, get_or-take, get_or-drop, get_or-append-add, ext_get_or}
use Rattle.meaning.specs.Adder.{bit}
use Rattle.laws.specs.RowParts.{part}
use Rattle.meaning.specs.Filing.{word_bits, word_in32, word_count, words_from}
use Rattle.laws.specs.Filing.Words.{length-of-word_bits, word_bits-append, length-of-word_in32}
use Rattle.laws.specs.Filing.Counting.{row_values, values_of}
use Rattle.filing.specs.Laying.{mask_of, Masked, Rowed, Layable}
use Rattle.filing.proofs.Parts.{parts-of-words}

-- The bits of a word among those of all bases.
pub part-of-bits :
    (bases rest : List ℕ) (n i count : ℕ) → length bases + 1 ≡ count + n → i < count
    → take (2 * n) (drop (2 * (count - 1 - i)) (map bit (word_bits bases) ++ rest)) ≡ map bit (word_bits (take n (drop i bases)))
part-of-bits bases rest n i count all inside =
    let front = take i bases in
    let word = take n (drop i bases) in
    let behind = drop n (drop i bases) in
    let whole : bases ≡ front ++ (word ++ behind) =
    sym (ap (λ (l : List ℕ). front ++ l) (take-append-drop n (drop i bases)) ∙ take-append-drop i bases) in
    let bits : word_bits bases ≡ (word_bits behind ++ word_bits word) ++ word_bits front =
    ap word_bits whole ∙ word_bits-append front (word ++ behind) ∙ ap (λ (l : List Bool). l ++ word_bits front) (word_bits-append word behind) in
    let here = map bit (word_bits word) in
    let low = map bit (word_bits behind) in
    let laid : map bit (word_bits bases) ++ rest ≡ low ++ (here ++ (map bit (word_bits front) ++ rest)) =
    ap (λ (l : List Bool). map bit l ++ rest) bits
    ∙ ap (λ (l : List ℕ). l ++ rest) (map-append bit (word_bits behind ++ word_bits word) (word_bits front) ∙ ap (λ (l : List ℕ). l ++ map bit (word_bits front)) (map-append bit (word_bits behind) (word_bits word)))
    ∙ simp append_assoc in
    let low-long : length low ≡ 2 * (count - 1 - i) =
    length-map (word_bits behind) bit
    ∙ omega (arith, length-of-word_bits behind, length-drop n (drop i bases), length-drop i bases) in
    let here-long : length here ≡ 2 * n =
    length-map (word_bits word) bit
    ∙ omega (arith, length-of-word_bits word, length-take-le n (drop i bases) (omega (arith, length-drop i bases))) in
    ap (λ (l : List ℕ). take (2 * n) (drop (2 * (count - 1 - i)) l)) laid
    ∙ ap (take (2 * n)) (drop_at low (here ++ (map bit (word_bits front) ++ rest)) (2 * (count - 1 - i)) low-long)
    ∙ take_at here (map bit (word_bits front) ++ rest) (2 * n) here-long

bit-most : (bs : List Bool) (k : ℕ) → get_or (map bit bs) k 0 ≤ 1
bit-most [] k = omega arith
bit-most (true ∷ bs) zero = omega arith
bit-most (false ∷ bs) zero = omega arith
bit-most (b ∷ bs) (suc k) = bit-most bs k

no_bits : (m : ℕ) → map bit (replicate m false) ≡ replicate m 0
no_bits zero = refl
no_bits (suc m) = ap (λ (l : List ℕ). 0 ∷ l) (no_bits m)

kept : (x : ℕ) → x ≤ 1 → bit_and x 255 ≡ x
kept x small = and_mask x 8 ∙ omega arith

module _
    (bits : List ℕ) (from n : ℕ) (row word : List ℕ)
    (is : Masked bits from (mask_of (2 * n)) row)
    (long : length word ≡ n) (few : n ≤ 16)
    (own : take (2 * n) (drop from bits) ≡ map bit (word_bits word))
  where
    words-bits : length (map bit (word_bits word)) ≡ 2 * n
    words-bits = length-map (word_bits word) bit ∙ omega (arith, length-of-word_bits word)

    values : row_values word ≡ map bit (word_bits word) ++ replicate (32 - length (word_bits word)) 0
    unfolding word_in32
    values =
        map-append bit (word_bits word) (replicate (32 - length (word_bits word)) false)
        ∙ ap (λ (l : List ℕ). map bit (word_bits word) ++ l) (no_bits (32 - length (word_bits word)))

    low : (k : ℕ) → k < 2 * n → get_or row k 0 ≡ get_or (row_values word) k 0
    low k h =
        let mask : get_or (mask_of (2 * n)) k 0 ≡ 255 =
        get_or-append (replicate (2 * n) 255) (drop (2 * n) (replicate 32 0)) 0 k (omega (arith, length-replicate {A = ℕ} (2 * n) 255))
        ∙ get_or-replicate {A = ℕ} (2 * n) k 255 0 h in
        let entry : get_or bits (from + k) 0 ≡ get_or (map bit (word_bits word)) k 0 =
        sym (get_or-drop from bits k 0) ∙ sym (get_or-take (2 * n) (drop from bits) k 0 h) ∙ ap (λ (l : List ℕ). get_or l k 0) own in
        is.at k (omega arith)
        ∙ ap₂ bit_and entry mask
        ∙ kept (get_or (map bit (word_bits word)) k 0) (bit-most (word_bits word) k)
        ∙ sym (get_or-append (map bit (word_bits word)) (replicate (32 - length (word_bits word)) 0) 0 k (omega (arith, words-bits)))
        ∙ sym (ap (λ (l : List ℕ). get_or l k 0) values)

    high : (j : ℕ) → 2 * n + j < 32 → get_or row (2 * n + j) 0 ≡ get_or (row_values word) (2 * n + j) 0
    high j h =
        let front : length (replicate {A = ℕ} (2 * n) 255) ≡ 2 * n = length-replicate {A = ℕ} (2 * n) 255 in
        let mask : get_or (mask_of (2 * n)) (2 * n + j) 0 ≡ 0 =
        ap (λ (k : ℕ). get_or (mask_of (2 * n)) (k + j) 0) (sym front)
        ∙ get_or-append-add (replicate (2 * n) 255) (drop (2 * n) (replicate 32 0)) j 0
        ∙ get_or-drop (2 * n) (replicate 32 0) j 0
        ∙ get_or-replicate {A = ℕ} 32 (2 * n + j) 0 0 h in
        is.at (2 * n + j) h
        ∙ ap (bit_and (get_or bits (from + (2 * n + j)) 0)) mask
        ∙ and_zero_r (get_or bits (from + (2 * n + j)) 0)
        ∙ sym (
        ap (λ (l : List ℕ). get_or l (2 * n + j) 0) values
        ∙ ap (λ (k : ℕ). get_or (map bit (word_bits word) ++ replicate (32 - length (word_bits word)) 0) (k + j) 0) (sym words-bits)
        ∙ get_or-append-add (map bit (word_bits word)) (replicate (32 - length (word_bits word)) 0) j 0
        ∙ get_or-replicate {A = ℕ} (32 - length (word_bits word)) j 0 0 (omega (arith, length-of-word_bits word)))

    pub row-of-word : row ≡ row_values word
    row-of-word =
        let whole : length (row_values word) ≡ 32 =
        length-map (word_in32 word) bit ∙ length-of-word_in32 word (omega arith) in
        ext_get_or 0 row (row_values word) (is.whole ∙ sym whole)
        λ k h. at k (omega (arith, is.whole)) (ltb k (2 * n)) refl
      where
        at : (k : ℕ) → k < 32 → (b : Bool) → ltb k (2 * n) ≡ b → get_or row k 0 ≡ get_or (row_values word) k 0
        at k h true e = low k (ltb-true k (2 * n) e)
        at k h false e =
            let above : 2 * n ≤ k = ltb-false k (2 * n) e in
            let split : 2 * n + (k - 2 * n) ≡ k = omega arith in
            rw split at (high (k - 2 * n) (omega arith))

-- The rows of all words.
pub words-laid :
    (bases : List ℕ) (n : ℕ) (bits rest mask values : List ℕ) {long whole : ℕ}
    → Layable (length bases) n long whole
    → bits ≡ map bit (word_bits bases) ++ rest
    → mask ≡ mask_of (2 * n)
    → Rowed (word_count n (length bases)) bits mask (word_count n (length bases)) values
    → values ≡ values_of (words_from (word_count n (length bases)) n bases)
words-laid bases n bits rest mask values l is masks so =
    let count = word_count n (length bases) in
    let all : length bases + 1 ≡ count + n = omega (arith, l.words) in
    parts-of-words row_values 32 count n values bases so.whole
    λ i h.
    let word = take n (drop i bases) in
    let own : take (2 * n) (drop (2 * (count - 1 - i)) bits) ≡ map bit (word_bits word) =
    ap (λ (b : List ℕ). take (2 * n) (drop (2 * (count - 1 - i)) b)) is ∙ part-of-bits bases rest n i count all h in
    row-of-word bits (2 * (count - 1 - i)) n (part 32 i values) word (rw masks at (so.row i h))
    (length-take-le n (drop i bases) (omega (arith, length-drop i bases))) l.few own
