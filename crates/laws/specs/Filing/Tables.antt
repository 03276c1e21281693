-- The table: entry s is how many of the shelves are s; the entries add up to the number of shelves, where each of these is below 33; and a
-- table that is filled by adding one for each shelf after the other is that table.
use Rattle.std.specs.Prelude.{ℕ, zero, suc, ◌+◌, ◌≤◌, ◌<◌, ◌≢◌, ◌≡◌, refl, Bool, true, false, List, [], ◌∷◌, ◌++◌, map, eqb, length, get_or, set, replicate}
use Rattle.std.proofs.Common.{sym, ap, ◌∙◌, arith, zero-add, add-zero, suc-add, add-suc, length-set, ext_get_or, get_or-set_same, get_or-set_other, ne_eqb, eqb-true}
use Rattle.std.proofs.lemmas.List.{length-map, length-replicate, get_or-replicate}
use Rattle.std.proofs.lemmas.Bool.{eqb-false}
use Rattle.meaning.specs.Lists.{All, none, more}
use Rattle.meaning.specs.Adder.{up_from, bit}
use Rattle.laws.specs.Adder.Nets.{length-up_from}
use Rattle.laws.specs.Figures.Tally.{total, total-both, total-none}
use Rattle.meaning.specs.Filing.{how_many, shelf_count, table_of}

at-up_from : (f : ℕ → ℕ) (first count i : ℕ) → i < count → get_or (map f (up_from first count)) i 0 ≡ f (first + i)
unfolding up_from
at-up_from f first zero i h = absurd (omega arith)
at-up_from f first (suc count) zero h = ap f (sym (add-zero first))
at-up_from f first (suc count) (suc i) h =
    at-up_from f (suc first) count i (omega arith) ∙ ap f (suc-add first i ∙ sym (add-suc first i))

pub length-of-table_of : (shelves : List ℕ) → length (table_of shelves) ≡ shelf_count
unfolding table_of
length-of-table_of shelves = length-map (up_from 0 shelf_count) (λ shelf. how_many shelf shelves) ∙ length-up_from 0 shelf_count

-- Entry s is how many of the shelves are s.
pub entry-of-table : (shelves : List ℕ) (s : ℕ) → s < shelf_count → get_or (table_of shelves) s 0 ≡ how_many s shelves
unfolding table_of
entry-of-table shelves s h =
    at-up_from (λ shelf. how_many shelf shelves) 0 shelf_count s h ∙ ap (λ (k : ℕ). how_many k shelves) (zero-add s)

-- The entries add up to the number of shelves.
counted-before : (first count s : ℕ) → s < first → total (map (λ k. bit (eqb s k)) (up_from first count)) ≡ 0
unfolding total up_from
counted-before first zero s l = refl
counted-before first (suc n) s l =
    rw (ne_eqb s first (λ e. omega arith)) (omega (arith, counted-before (suc first) n s (omega arith)))

counted-once : (first count s : ℕ) → first ≤ s → s < first + count → total (map (λ k. bit (eqb s k)) (up_from first count)) ≡ 1
unfolding total up_from
counted-once first zero s l h = absurd (omega arith)
counted-once first (suc n) s l h = go (eqb s first) refl (counted-once (suc first) n s)
  where
    go :
        (b : Bool)
        → eqb s first ≡ b
        → (suc first ≤ s → s < suc first + n → total (map (λ k. bit (eqb s k)) (up_from (suc first) n)) ≡ 1)
        → bit b + total (map (λ k. bit (eqb s k)) (up_from (suc first) n)) ≡ 1
    go true e rest = omega (arith, counted-before (suc first) n s (omega (arith, eqb-true s first e)))
    go false e rest =
        let apart : ¬ (s ≡ first) = eqb-false s first e in
        omega (arith, rest (omega arith) (omega arith))

pub table-adds_up : (shelves : List ℕ) → All (λ s. s < shelf_count) shelves → total (table_of shelves) ≡ length shelves
unfolding table_of how_many
table-adds_up [] none = total-none (up_from 0 shelf_count)
table-adds_up (s ∷ shelves) (more inside rest) =
    total-both (λ k. bit (eqb s k)) (λ k. how_many k shelves) (up_from 0 shelf_count)
    ∙ omega (arith, counted-once 0 shelf_count s (omega arith) (omega arith), table-adds_up shelves rest)

-- One for each shelf after the other.
unfoldable pub add_each : (shelves table : List ℕ) → List ℕ
add_each [] table = table
add_each (s ∷ shelves) table = add_each shelves (set table s (get_or table s 0 + 1))

pub add_each-append : (xs ys table : List ℕ) → add_each (xs ++ ys) table ≡ add_each ys (add_each xs table)
unfolding add_each
add_each-append [] ys table = refl
add_each-append (x ∷ xs) ys table = add_each-append xs ys (set table x (get_or table x 0 + 1))

pub length-of-add_each : (shelves table : List ℕ) → length (add_each shelves table) ≡ length table
unfolding add_each
length-of-add_each [] table = refl
length-of-add_each (s ∷ shelves) table =
    length-of-add_each shelves (set table s (get_or table s 0 + 1)) ∙ length-set table s (get_or table s 0 + 1)

pub entry-of-add_each :
    (shelves table : List ℕ) (k : ℕ) → k < length table → get_or (add_each shelves table) k 0 ≡ get_or table k 0 + how_many k shelves
unfolding add_each how_many
entry-of-add_each [] table k h = omega arith
entry-of-add_each (s ∷ shelves) table k h =
    entry-of-add_each shelves (set table s (get_or table s 0 + 1)) k (omega (arith, length-set table s (get_or table s 0 + 1)))
    ∙ go (eqb s k) refl
  where
    go :
        (b : Bool) → eqb s k ≡ b
        → get_or (set table s (get_or table s 0 + 1)) k 0 + how_many k shelves ≡ get_or table k 0 + (bit b + how_many k shelves)
    go true e =
        let same : s ≡ k = eqb-true s k e in
        rw same (omega (arith, get_or-set_same table k (get_or table k 0 + 1) 0 h))
    go false e =
        let apart : k ≢ s = λ is. eqb-false s k e (sym is) in
        omega (arith, get_or-set_other table s k (get_or table s 0 + 1) 0 apart)

-- From a table of 0 on it makes the table.
pub add_each-makes : (shelves : List ℕ) → add_each shelves (replicate shelf_count 0) ≡ table_of shelves
add_each-makes shelves =
    let long : length (add_each shelves (replicate shelf_count 0)) ≡ shelf_count =
    length-of-add_each shelves (replicate shelf_count 0) ∙ length-replicate {A = ℕ} shelf_count 0 in
    ext_get_or 0 (add_each shelves (replicate shelf_count 0)) (table_of shelves)
    (long ∙ sym (length-of-table_of shelves))
    λ i h.
    let inside : i < shelf_count = omega (arith, long) in
    entry-of-add_each shelves (replicate shelf_count 0) i (omega (arith, length-replicate {A = ℕ} shelf_count 0))
    ∙ omega (arith, get_or-replicate {A = ℕ} shelf_count i 0 0 inside, entry-of-table shelves i inside)

-- No entry is above the number of shelves.
pub how_many-most : (s : ℕ) (shelves : List ℕ) → how_many s shelves ≤ length shelves
unfolding how_many
how_many-most s [] = omega arith
how_many-most s (x ∷ shelves) = go (eqb x s) (how_many-most s shelves)
  where
    go : (b : Bool) → how_many s shelves ≤ length shelves → bit b + how_many s shelves ≤ suc (length shelves)
    go true h = omega arith
    go false h = omega arith
