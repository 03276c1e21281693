-- Where the search for a value that is none stops in a part of a list: what is known of the whole list tells it.
use Rattle.std.specs.Prelude.{ℕ, zero, suc, ◌+◌, ◌≤◌, ◌<◌, ◌≡◌, refl, Bool, true, false, cond, List, [], ◌∷◌, leb, length, take, drop}
use Rattle.std.proofs.Common.{ap, arith}
use Rattle.meaning.specs.Values.{floating}
use Rattle.meaning.specs.Calls.{first_above}

-- Whether a value is one.
abbrev taken : ℕ → Bool
taken x = leb x floating

-- The first of the whole lies behind the part that is left out.
pub first-of-rest : (n : ℕ) (values : List ℕ) → n ≤ first_above values → n + first_above (drop n values) ≡ first_above values
unfolding first_above
first-of-rest zero values h = omega arith
first-of-rest (suc n) [] h = absurd (omega arith)
first-of-rest (suc n) (x ∷ xs) h = go (taken x) h (first-of-rest n xs)
  where
    go :
        (b : Bool) → suc n ≤ cond b (suc (first_above xs)) 0 → (n ≤ first_above xs → n + first_above (drop n xs) ≡ first_above xs)
        → suc n + first_above (drop n xs) ≡ cond b (suc (first_above xs)) 0
    go true h rest = omega (arith, rest (omega arith))
    go false h rest = absurd (omega arith)

-- The part has none before the first of the whole,
pub none_in_front : (n : ℕ) (values : List ℕ) → n ≤ first_above values → first_above (take n values) ≡ length (take n values)
unfolding first_above
none_in_front zero values h = refl
none_in_front (suc n) [] h = refl
none_in_front (suc n) (x ∷ xs) h = go (taken x) h (none_in_front n xs)
  where
    go :
        (b : Bool) → suc n ≤ cond b (suc (first_above xs)) 0 → (n ≤ first_above xs → first_above (take n xs) ≡ length (take n xs))
        → cond b (suc (first_above (take n xs))) 0 ≡ suc (length (take n xs))
    go true h rest = ap suc (rest (omega arith))
    go false h rest = absurd (omega arith)

-- and has that one as its first where it reaches so far.
pub first_in_front : (n : ℕ) (values : List ℕ) → first_above values < n → first_above (take n values) ≡ first_above values
unfolding first_above
first_in_front zero values h = absurd (omega arith)
first_in_front (suc n) [] h = refl
first_in_front (suc n) (x ∷ xs) h = go (taken x) h (first_in_front n xs)
  where
    go :
        (b : Bool) → cond b (suc (first_above xs)) 0 < suc n → (first_above xs < n → first_above (take n xs) ≡ first_above xs)
        → cond b (suc (first_above (take n xs))) 0 ≡ cond b (suc (first_above xs)) 0
    go true h rest = ap suc (rest (omega arith))
    go false h rest = refl
