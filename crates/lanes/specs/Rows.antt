-- Rows of values packed into words, and given back: a list holds one word for each net, its digits the rows.
use Rattle.std.specs.Prelude.{ℕ, zero, suc, ◌+◌, ◌-◌, ◌*◌, ◌≤◌, ◌<◌, Bool, List, [], ◌∷◌, ◌≡◌, refl, length, get_or, set}
use Rattle.std.proofs.Common.{subst, ◌∙◌, arith, length-set, get_or-set_same, get_or-set_other}
use Rattle.meaning.specs.Values.{Val, value}
use Rattle.lanes.specs.Words.{digit, word}

-- The values of a net in each row.
abbrev pub column : ℕ → List (List ℕ) → List Val
column i [] = []
column i (row ∷ rows) = value (get_or row i 0) ∷ column i rows

-- Each of the first n words has its net's values in the rows.
pub record Packed (f : Val → Bool) (rows : List (List ℕ)) (n : ℕ) (words : List ℕ) : Type 0 where
  pub at : (i : ℕ) → i < n → get_or words i 0 ≡ word f (column i rows)

-- There is place for one row more.
pub record Light (n : ℕ) (words : List ℕ) : Type 0 where
  pub long : n ≤ length words
  pub light : (i : ℕ) → i < n → get_or words i 0 < 128

-- A row in front of the others, in the first i words.
pub record Added (f : Val → Bool) (row old new : List ℕ) (i : ℕ) : Type 0 where
  pub size : length new ≡ length old
  pub done : (j : ℕ) → j < i → get_or new j 0 ≡ get_or old j 0 * 2 + digit (f (value (get_or row j 0)))
  pub left : (j : ℕ) → i ≤ j → get_or new j 0 ≡ get_or old j 0

pub added_none : {f : Val → Bool} {row old : List ℕ} → Added f row old old 0
added_none = record { size = refl; done = λ j h. absurd (omega arith); left = λ j h. refl }

-- A number below another's successor is it or is below it.
pub split : {P : ℕ → Type 0} (i : ℕ) → P i → ((j : ℕ) → j < i → P j) → (j : ℕ) → j < i + 1 → P j
split {P} i here before j h = go (i - j) refl
  where
    go : (d : ℕ) → i - j ≡ d → P j
    go zero e = let same : i ≡ j = omega arith in subst P same here
    go (suc d) e = before j (omega arith)

pub added_more :
    {f : Val → Bool} {row old new : List ℕ} {i : ℕ}
    → Added f row old new i
    → i < length new
    → (b : ℕ)
    → b ≡ digit (f (value (get_or row i 0)))
    → Added f row old (set new i (get_or new i 0 * 2 + b)) (i + 1)
added_more {f} {row} {old} {new} {i} a h b e =
    record {
      size = length-set new i next ∙ a.size;
      done = split i
          (get_or-set_same new i next 0 h ∙ omega (arith, a.left i (omega arith)))
          (λ j k. get_or-set_other new i j next 0 (λ same. omega arith) ∙ a.done j k);
      left = λ j k. get_or-set_other new i j next 0 (λ same. omega arith) ∙ a.left j (omega arith);
    }
  where
    next : ℕ
    next = get_or new i 0 * 2 + b

-- A row was added to those that were packed.
pub packed_more :
    {f : Val → Bool} {row old new : List ℕ} {rows : List (List ℕ)}
    → Packed f rows (length row) old
    → Added f row old new (length row)
    → Packed f (row ∷ rows) (length row) new
packed_more p a = record { at = λ i h. a.done i h ∙ omega (arith, p.at i h) }
