-- Up to 256 rows packed into entries, 64 to a word: row r stands in word r / 64 at place r % 64.
use Rattle.std.specs.Prelude.{ℕ, zero, suc, ◌+◌, ◌-◌, ◌*◌, ◌/◌, ◌%◌, ◌≤◌, ◌<◌, min, Bool, List, [], ◌≡◌, refl, length, get_or, drop, replicate}
use Rattle.std.proofs.Common.{ap, subst, subst₂, ◌∙◌, suc-mul, zero-mul, add-mul, mul-le-mul_right, arith, get_or-take, get_or-drop}
use Rattle.std.proofs.lemmas.List.{length-replicate}
use Rattle.meaning.specs.Values.{Val, value}
use Rattle.meaning.specs.Rows.{rows_of}
use Rattle.lanes.specs.Lanes.{surely, maybe}
use Rattle.lanes.specs.Entries.{Holds}
use Rattle.lanes.specs.Rows.{Packed}
use Rattle.lanes.specs.Groups.{length-rows_of}
use Rattle.lanes.specs.Wording.{Whole}
use Rattle.lanes.specs.Storing.{Stored, entry_of, pick, stored-holds}

-- The rows are there, and entries for all inputs.
pub record Block (values : List ℕ) (inputs from count : ℕ) (entries : List (List ℕ)) : Type 0 where
  pub there : from + count * inputs ≤ length values
  pub few : count ≤ 256
  pub narrow : inputs ≤ 192
  pub long : inputs ≤ length entries

-- Each entry holds its input's values in all rows.
pub record Taken (values : List ℕ) (inputs from count : ℕ) (old new : List (List ℕ)) : Type 0 where
  pub size : length new ≡ length old
  pub at :
      (r : ℕ) → r < count → (j : ℕ) → j < inputs → Holds (r / 64) (r % 64) (get_or new j []) (value (get_or values (from + r * inputs + j) 0))

-- A value of a row of a buffer.
row-entry :
    (n w : ℕ) (xs : List ℕ) (i : ℕ) → i < n → (j : ℕ) → j < w → get_or (get_or (rows_of n w xs) i []) j 0 ≡ get_or xs (i * w + j) 0
unfolding rows_of
row-entry zero w xs i h j k = absurd (omega arith)
row-entry (suc n) w xs zero h j k = get_or-take w xs j 0 k ∙ ap (λ (p : ℕ). get_or xs p 0) (omega (arith, zero-mul w))
row-entry (suc n) w xs (suc i) h j k =
    row-entry n w (drop w xs) i (omega arith) j k
    ∙ get_or-drop w xs (i * w + j) 0
    ∙ ap (λ (p : ℕ). get_or xs p 0) (omega (arith, suc-mul i w))

-- The rows before a word, and those in it.
abbrev before : (count word : ℕ) → ℕ
before count word = min (word * 64) count

abbrev within : (count word : ℕ) → ℕ
within count word = min (word * 64 + 64) count - before count word

abbrev pub word_rows : (values : List ℕ) (inputs from count word : ℕ) → List (List ℕ)
word_rows values inputs from count word = rows_of (within count word) inputs (drop (from + before count word * inputs) values)

-- They can be packed: nothing is packed yet.
pub record Part (values : List ℕ) (inputs from count word : ℕ) (words : List ℕ) : Type 0 where
  pub there : from + count * inputs ≤ length values
  pub few : count ≤ 256
  pub one : word < 4
  pub narrow : inputs ≤ 192
  pub long : inputs ≤ length words
  pub empty : (i : ℕ) → i < inputs → get_or words i 0 ≡ 0

module _ {values : List ℕ} {inputs from count word : ℕ} {words : List ℕ} (p : Part values inputs from count word words) where
  pub part-there : from + before count word * inputs + within count word * inputs ≤ length values
  part-there =
      let up : before count word + within count word ≤ count = omega arith in
      omega (arith, add-mul (before count word) (within count word) inputs, mul-le-mul_right inputs up, p.there)

  -- The same where the rows before the word and those up to its end are counted.
  module _ {start end : ℕ} (starts : start ≡ before count word) (ends : end ≡ min (word * 64 + 64) count) where
    pub start-there : from + start * inputs ≤ length values
    start-there = omega (arith, part-there, ap (λ (n : ℕ). n * inputs) starts)

    pub part-whole : Whole values inputs (from + start * inputs) (end - start) words
    part-whole =
        rw (starts, ends)
        (record { there = part-there; few = omega arith; narrow = p.narrow; long = p.long; empty = p.empty })

    pub part-packed :
        {f : Val → Bool} {new : List ℕ}
        → Packed f (rows_of (end - start) inputs (drop (from + start * inputs) values)) inputs new
        → Packed f (word_rows values inputs from count word) inputs new
    part-packed {f} {new} =
        subst₂ (λ (s e : ℕ). Packed f (rows_of (e - s) inputs (drop (from + s * inputs) values)) inputs new) starts ends

-- Nothing is packed in an array of zeros.
pub zeros-at : (n i : ℕ) → get_or {A = ℕ} (replicate n 0) i 0 ≡ 0
zeros-at zero i = refl
zeros-at (suc n) zero = refl
zeros-at (suc n) (suc i) = zeros-at n i

module _ {values : List ℕ} {inputs from count : ℕ} {entries : List (List ℕ)} (g : Block values inputs from count entries) where
  pub part_of : (word : ℕ) → word < 4 → Part values inputs from count word (replicate 192 0)
  part_of word h =
      record {
        there = g.there;
        few = g.few;
        one = h;
        narrow = g.narrow;
        long = omega (arith, g.narrow, length-replicate {A = ℕ} 192 0);
        empty = λ i k. zeros-at 192 i;
      }

  -- The words of a rail, by their number.
  pub record Rail (f : Val → Bool) (a b c d : List ℕ) : Type 0 where
    pub first : Packed f (word_rows values inputs from count 0) inputs a
    pub second : Packed f (word_rows values inputs from count 1) inputs b
    pub third : Packed f (word_rows values inputs from count 2) inputs c
    pub fourth : Packed f (word_rows values inputs from count 3) inputs d

  by_word : {f : Val → Bool} {a b c d : List ℕ} → Rail f a b c d → (q : ℕ) → q < 4 → Packed f (word_rows values inputs from count q) inputs (pick a b c d q)
  by_word r zero h = r.first
  by_word r (suc zero) h = r.second
  by_word r (suc (suc zero)) h = r.third
  by_word r (suc (suc (suc zero))) h = r.fourth
  by_word r (suc (suc (suc (suc q)))) h = absurd (omega arith)

  pub taken :
      (a b c d s t u v : List ℕ) {new : List (List ℕ)}
      → Rail surely a b c d
      → Rail maybe s t u v
      → Stored (entry_of a b c d s t u v) entries new inputs
      → Taken values inputs from count entries new
  taken a b c d s t u v {new} low high stored = record { size = stored.size; at = at_row }
    where
      at_row :
          (r : ℕ) → r < count → (j : ℕ) → j < inputs → Holds (r / 64) (r % 64) (get_or new j []) (value (get_or values (from + r * inputs + j) 0))
      at_row r h j k =
          let q = r / 64 in
          let i = r % 64 in
          let word : q < 4 = omega (arith, h, g.few) in
          let front : before count q ≡ q * 64 = omega arith in
          let inside : i < within count q = omega arith in
          let same : before count q + i ≡ r = omega arith in
          let place : from + before count q * inputs + (i * inputs + j) ≡ from + r * inputs + j =
          omega (arith, ap (λ (n : ℕ). n * inputs) same, add-mul (before count q) i inputs) in
          let long = length-rows_of (within count q) inputs (drop (from + before count q * inputs) values) in
          subst (λ (n : ℕ). Holds q i (get_or new j []) (value n))
          (row-entry (within count q) inputs _ i inside j k
          ∙ get_or-drop (from + before count q * inputs) values (i * inputs + j) 0
          ∙ ap (λ (p : ℕ). get_or values p 0) place)
          (stored-holds a b c d s t u v stored q word (by_word low q word) (by_word high q word) j k i (omega (arith, long)))
