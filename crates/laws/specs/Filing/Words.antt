-- Words of bases: how many bits they have and which number these write; that the shelf is 0 to 32; and the rows of the request.
use Rattle.std.specs.Prelude.{ℕ, ◌+◌, ◌*◌, ◌-◌, ◌≤◌, ◌≡◌, refl, Bool, true, false, List, [], ◌∷◌, ◌++◌, reverse, length, replicate}
use Rattle.std.proofs.Common.{sym, append-nil, append_assoc, arith, length-append}
use Rattle.std.proofs.lemmas.List.{length-replicate, length-reverse}
use Rattle.meaning.specs.Counter.{zeros_first, leading_zeros}
use Rattle.meaning.specs.Calls.{answer}
use Rattle.meaning.specs.Filing.{base, first_other, base_bits, word_bits, word_in32, shelf_of, most_bases, filing_word}

-- Two bits a base.
pub length-of-word_bits : (word : List ℕ) → length (word_bits word) ≡ 2 * length word
unfolding word_bits
length-of-word_bits [] = refl
length-of-word_bits (b ∷ word) = omega (arith, length-append (word_bits word) (base_bits b), length-of-word_bits word)

-- Bases behind others are the lower ones.
pub word_bits-append : (xs ys : List ℕ) → word_bits (xs ++ ys) ≡ word_bits ys ++ word_bits xs
unfolding word_bits
word_bits-append [] ys = sym (append-nil (word_bits ys))
word_bits-append (x ∷ xs) ys = rw (word_bits-append xs ys) (append_assoc (word_bits ys) (word_bits xs) (base_bits x))

pub length-of-word_in32 : (word : List ℕ) → length word ≤ most_bases → length (word_in32 word) ≡ 32
unfolding word_in32
length-of-word_in32 word few =
    omega (
      arith,
      length-append (word_bits word) (replicate (32 - length (word_bits word)) false),
      length-replicate (32 - length (word_bits word)) false,
      length-of-word_bits word,
    )

-- Leading zeros are at most all.
zeros_first-most : (bs : List Bool) → zeros_first bs ≤ length bs
unfolding zeros_first
zeros_first-most [] = omega arith
zeros_first-most (true ∷ bs) = omega arith
zeros_first-most (false ∷ bs) = omega (arith, zeros_first-most bs)

pub shelf-most : (word : List ℕ) → length word ≤ most_bases → shelf_of word ≤ 32
unfolding shelf_of leading_zeros
shelf-most word few =
    omega (arith, zeros_first-most (reverse (word_in32 word)), length-reverse (word_in32 word), length-of-word_in32 word few)

-- The rows of the request: AAAA gives 32, C gives 31.
pub rows : (filing_word (65 ∷ 65 ∷ 65 ∷ 65 ∷ []) ≡ answer 32) × (filing_word (67 ∷ []) ≡ answer 31)
unfolding filing_word first_other base shelf_of word_in32 word_bits leading_zeros zeros_first
rows = (refl, refl)
