-- The words of a sequence: how many there are, and which word stands where.
use Rattle.std.specs.Prelude.{ℕ, zero, suc, ◌+◌, ◌-◌, ◌≤◌, ◌<◌, ◌≡◌, refl, List, [], ◌∷◌, ◌++◌, length, take, drop}
use Rattle.std.proofs.Common.{ap, ◌∙◌, arith, zero-add, suc-add, drop-drop, take-take}
use Rattle.meaning.specs.Filing.{words_from, word_count, words_of}

pub length-of-words_from : (count n : ℕ) (sequence : List ℕ) → length (words_from count n sequence) ≡ count
unfolding words_from
length-of-words_from zero n sequence = refl
length-of-words_from (suc count) n sequence = ap suc (length-of-words_from count n (drop 1 sequence))

-- As many words as places where one begins,
pub how_many-words : (n : ℕ) (sequence : List ℕ) → length (words_of n sequence) ≡ length sequence + 1 - n
unfolding words_of
how_many-words n sequence = length-of-words_from (word_count n (length sequence)) n sequence

-- and none in a shorter sequence.
pub none_in_shorter : (n : ℕ) (sequence : List ℕ) → length sequence < n → words_of n sequence ≡ []
unfolding words_of words_from
none_in_shorter n sequence short = ap (λ (k : ℕ). words_from k n sequence) none
  where
    none : word_count n (length sequence) ≡ 0
    none = omega arith

-- Words behind others; one word more.
pub words_from-add :
    (a b n : ℕ) (sequence : List ℕ) → words_from (a + b) n sequence ≡ words_from a n sequence ++ words_from b n (drop a sequence)
unfolding words_from
words_from-add zero b n sequence = ap (λ (k : ℕ). words_from k n sequence) (zero-add b)
words_from-add (suc a) b n sequence =
    ap (λ (k : ℕ). words_from k n sequence) (suc-add a b)
    ∙ ap (λ (l : List (List ℕ)). take n sequence ∷ l) (words_from-add a b n (drop 1 sequence))
    ∙ ap (λ (l : List ℕ). take n sequence ∷ (words_from a n (drop 1 sequence) ++ words_from b n l)) behind
  where
    one : 1 + a ≡ suc a
    one = omega arith

    behind : drop a (drop 1 sequence) ≡ drop (suc a) sequence
    behind = drop-drop a 1 sequence ∙ ap (λ (k : ℕ). drop k sequence) one

pub words_from-more :
    (count n : ℕ) (sequence : List ℕ)
    → words_from (count + 1) n sequence ≡ words_from count n sequence ++ (take n (drop count sequence) ∷ [])
unfolding words_from
words_from-more count n sequence = words_from-add count 1 n sequence

-- They reach so far into the sequence and no further.
pub words_from-front :
    (count n m : ℕ) (sequence : List ℕ)
    → 1 ≤ n
    → count + n ≤ m + 1
    → words_from count n (take m sequence) ≡ words_from count n sequence
unfolding words_from
words_from-front zero n m sequence some h = refl
words_from-front (suc count) n zero sequence some h = absurd (omega arith)
words_from-front (suc count) n (suc m) [] some h = refl
words_from-front (suc count) n (suc m) (b ∷ bases) some h =
    rw (take-take n (suc m) (b ∷ bases) (omega arith), words_from-front count n m bases some (omega arith))
