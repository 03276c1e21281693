-- Four words of each rail laid side by side as entries, and the rows that then stand in their lanes.
use Rattle.std.specs.Prelude.{ℕ, zero, suc, ◌+◌, ◌≤◌, ◌<◌, List, [], ◌∷◌, ◌≡◌, refl, length, get_or, set}
use Rattle.std.proofs.Common.{sym, subst, ◌∙◌, arith, length-set, get_or-set_same, get_or-set_other}
use Rattle.meaning.specs.Values.{value}
use Rattle.lanes.specs.Lanes.{surely, maybe, Lane}
use Rattle.lanes.specs.Entries.{Holds}
use Rattle.lanes.specs.Rows.{split, Packed}
use Rattle.lanes.specs.Laning.{packed-lane}

-- Lists of words, by their number.
pub record Lists (n : ℕ) (a b c d : List ℕ) : Type 0 where
  pub a-long : n ≤ length a
  pub b-long : n ≤ length b
  pub c-long : n ≤ length c
  pub d-long : n ≤ length d

abbrev pub entry_of : (a b c d s t u v : List ℕ) → ℕ → List ℕ
entry_of a b c d s t u v j =
    get_or a j 0 ∷ get_or b j 0 ∷ get_or c j 0 ∷ get_or d j 0 ∷ get_or s j 0 ∷ get_or t j 0 ∷ get_or u j 0 ∷ get_or v j 0 ∷ []

-- The first i entries are those of a function.
pub record Stored (f : ℕ → List ℕ) (old new : List (List ℕ)) (i : ℕ) : Type 0 where
  pub size : length new ≡ length old
  pub done : (j : ℕ) → j < i → get_or new j [] ≡ f j

pub stored-none : {f : ℕ → List ℕ} {old : List (List ℕ)} → Stored f old old 0
stored-none = record { size = refl; done = λ j h. absurd (omega arith) }

pub stored_more : {f : ℕ → List ℕ} {old new : List (List ℕ)} {i : ℕ} → Stored f old new i → i < length new → Stored f old (set new i (f i)) (i + 1)
stored_more {f} {old} {new} {i} s h =
    record {
      size = length-set new i (f i) ∙ s.size;
      done = split i (get_or-set_same new i (f i) [] h) (λ j k. get_or-set_other new i j (f i) [] (λ same. omega arith) ∙ s.done j k);
    }

-- The list of a word's number.
abbrev pub pick : (a b c d : List ℕ) → ℕ → List ℕ
pick a b c d zero = a
pick a b c d (suc zero) = b
pick a b c d (suc (suc zero)) = c
pick a b c d (suc (suc (suc q))) = d

-- Row i of word q, at net j.
pub stored-holds :
    (a b c d s t u v : List ℕ) {old new : List (List ℕ)} {n : ℕ}
    → Stored (entry_of a b c d s t u v) old new n
    → (q : ℕ)
    → q < 4
    → {rows : List (List ℕ)}
    → Packed surely rows n (pick a b c d q)
    → Packed maybe rows n (pick s t u v q)
    → (j : ℕ)
    → j < n
    → (i : ℕ)
    → i < length rows
    → Holds q i (get_or new j []) (value (get_or (get_or rows i []) j 0))
stored-holds a b c d s t u v st q in_words_lem {rows} l h j in_nets i in_rows =
    subst (λ (e : List ℕ). Holds q i e (value (get_or (get_or rows i []) j 0))) (sym (st.done j in_nets)) (record { lane = at-word q in_words_lem (packed-lane l h j in_nets i in_rows) })
  where
    at-word : (q : ℕ) → q < 4
        → Lane i (get_or (pick a b c d q) j 0) (get_or (pick s t u v q) j 0) (value (get_or (get_or rows i []) j 0))
        → Lane i (get_or (entry_of a b c d s t u v j) q 0) (get_or (entry_of a b c d s t u v j) (4 + q) 0) (value (get_or (get_or rows i []) j 0))
    at-word zero h k = k
    at-word (suc zero) h k = k
    at-word (suc (suc zero)) h k = k
    at-word (suc (suc (suc zero))) h k = k
    at-word (suc (suc (suc (suc q)))) h k = absurd (omega arith)
