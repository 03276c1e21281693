-- The tests of BOXLIST-OKP on nets numbered one after the other.
use Rattle.std.specs.Prelude.{◌≡◌, refl, Bool, true, false, ◌||◌, List, [], ◌∷◌, ◌++◌, ℕ, zero, suc, ◌+◌, ◌<◌, ◌≤◌, eqb}
use Rattle.std.proofs.Math.Bool.{or_assoc}
use Rattle.std.proofs.Common.{append-nil, arith, ne_eqb}
use Rattle.std.proofs.lemmas.Bool.{eqb-false}
use Rattle.meaning.specs.Boxlist.{member, disjoint, duplicates, subset}
use Rattle.meaning.specs.Adder.{up_from}

-- A net is the first of a list, or it is sought in the rest.
pub member-cons : (x y : ℕ) (ys : List ℕ) → ((x ≡ y → ⊥) → member x ys ≡ true) → member x (y ∷ ys) ≡ true
unfolding member
member-cons x y ys rest = go (eqb x y) refl
  where
    go : (b : Bool) → eqb x y ≡ b → (b || member x ys) ≡ true
    go true e = refl
    go false e = rest (eqb-false x y e)

pub member-append : (x : ℕ) (xs ys : List ℕ) → member x (xs ++ ys) ≡ (member x xs || member x ys)
unfolding member
member-append x [] ys = refl
member-append x (z ∷ xs) ys = rw (member-append x xs ys, or_assoc (eqb x z) (member x xs) (member x ys))

-- A net within a run is found, one that is none of the run is not.
pub member-of-run : (x first n : ℕ) → first ≤ x → x < first + n → member x (up_from first n) ≡ true
unfolding up_from
member-of-run x first zero low high = absurd (omega arith)
member-of-run x first (suc n) low high =
    member-cons x first (up_from (suc first) n) (λ other. member-of-run x (suc first) n (omega arith) (omega arith))

pub not_of-run :
    (x first n : ℕ) → ((y : ℕ) → first ≤ y → y < first + n → x ≡ y → ⊥) → member x (up_from first n) ≡ false
unfolding member up_from
not_of-run x first zero other = refl
not_of-run x first (suc n) other =
    rw (ne_eqb x first (other first (omega arith) (omega arith)))
    (not_of-run x (suc first) n (λ y low high. other y (omega arith) (omega arith)))

-- Nothing is listed twice in a run, with a list after it that has none of the run.
pub duplicates-after-run :
    (first n : ℕ) (xs : List ℕ)
    → ((y : ℕ) → first ≤ y → y < first + n → member y xs ≡ false)
    → duplicates (up_from first n ++ xs) ≡ duplicates xs
unfolding duplicates up_from
duplicates-after-run first zero xs apart = refl
duplicates-after-run first (suc n) xs apart =
    rw (
      member-append first (up_from (suc first) n) xs,
      not_of-run first (suc first) n (λ y low high. omega arith),
      apart first (omega arith) (omega arith),
    )
    (duplicates-after-run (suc first) n xs (λ y low high. apart y (omega arith) (omega arith)))

pub duplicates-of-run : (first n : ℕ) → duplicates (up_from first n) ≡ false
unfolding duplicates member
duplicates-of-run first n = rw append-nil at (duplicates-after-run first n [] (λ y low high. refl))

-- A run is disjoint from a list that has none of it.
pub disjoint-run :
    (first n : ℕ) (ys : List ℕ)
    → ((y : ℕ) → first ≤ y → y < first + n → member y ys ≡ false)
    → disjoint (up_from first n) ys ≡ true
unfolding disjoint up_from
disjoint-run first zero ys apart = refl
disjoint-run first (suc n) ys apart =
    rw (apart first (omega arith) (omega arith)) (disjoint-run (suc first) n ys (λ y low high. apart y (omega arith) (omega arith)))

-- A run that a list has, with a list after it, is a subset where that list is.
pub subset-after-run :
    (first n : ℕ) (xs ys : List ℕ)
    → ((y : ℕ) → first ≤ y → y < first + n → member y ys ≡ true)
    → subset (up_from first n ++ xs) ys ≡ subset xs ys
unfolding subset up_from
subset-after-run first zero xs ys held = refl
subset-after-run first (suc n) xs ys held =
    rw (held first (omega arith) (omega arith))
    (subset-after-run (suc first) n xs ys (λ y low high. held y (omega arith) (omega arith)))
