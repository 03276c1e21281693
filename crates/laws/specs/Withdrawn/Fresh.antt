-- The numbers that a rewriting gives to new nets: none of them is used in the module, none is given twice, and there are enough of them.
use Rattle.std.specs.Prelude.{ℕ, suc, ◌+◌, ◌≤◌, ◌≡◌, refl, Bool, true, false, cond, ◌||◌, List, [], ◌∷◌, eqb, length}
use Rattle.std.proofs.Common.{ap, true≢false, arith, eqb-true}
use Rattle.std.proofs.lemmas.Bool.{eqb-false}
use Rattle.meaning.specs.Boxlist.{member, duplicates}
use Rattle.meaning.specs.Withdrawn.{without}

-- Different numbers, none of them used.
pub data Unused (used : List ℕ) : List ℕ → Type 0 where
  none : Unused used []
  more : {x : ℕ} {xs : List ℕ} → member x used ≡ false → member x xs ≡ false → Unused used xs → Unused used (x ∷ xs)

-- Neither of two tests is true.
pub neither_true : (a b : Bool) → (a || b) ≡ false → (a ≡ false) × (b ≡ false)
neither_true true b e = absurd (true≢false e)
neither_true false b e = (refl, e)

pub without-out : (x : ℕ) (others xs : List ℕ) → member x xs ≡ false → member x (without others xs) ≡ false
unfolding without member
without-out x others [] e = refl
without-out x others (y ∷ ys) e = let both = neither_true (eqb x y) (member x ys) e in go (member y others) both.0 (without-out x others ys both.1)
  where
    go :
        (b : Bool)
        → eqb x y ≡ false
        → member x (without others ys) ≡ false
        → member x (cond b (without others ys) (y ∷ without others ys)) ≡ false
    go true apart rest = rest
    go false apart rest = rw (apart, rest)

pub unused-without : (others xs : List ℕ) → duplicates xs ≡ false → Unused others (without others xs)
unfolding without duplicates
unused-without others [] e = none
unused-without others (x ∷ xs) e =
    let both = neither_true (member x xs) (duplicates xs) e in
    go (member x others) refl (without-out x others xs both.0) (unused-without others xs both.1)
  where
    go :
        (b : Bool)
        → member x others ≡ b
        → member x (without others xs) ≡ false
        → Unused others (without others xs)
        → Unused others (cond b (without others xs) (x ∷ without others xs))
    go true is apart rest = rest
    go false is apart rest = more is apart rest

-- One number more to leave out leaves out at most one more of different numbers.
without-absent : (y : ℕ) (ys xs : List ℕ) → member y xs ≡ false → without (y ∷ ys) xs ≡ without ys xs
unfolding without member
without-absent y ys [] e = refl
without-absent y ys (x ∷ xs) e =
    let both = neither_true (eqb y x) (member y xs) e in
    rw (other x (eqb-false y x both.0), without-absent y ys xs both.1)
  where
    other : (x : ℕ) → (y ≡ x → ⊥) → eqb x y ≡ false
    other x h = go (eqb x y) refl
      where
        go : (b : Bool) → eqb x y ≡ b → b ≡ false
        go true e = absurd (h (let same = eqb-true x y e in omega arith))
        go false e = refl

one_more : (y : ℕ) (ys xs : List ℕ) → duplicates xs ≡ false → length (without ys xs) ≤ suc (length (without (y ∷ ys) xs))
unfolding without member duplicates
one_more y ys [] e = omega arith
one_more y ys (x ∷ xs) e =
    let both = neither_true (member x xs) (duplicates xs) e in
    go (eqb x y) refl (member x ys) both.0 (one_more y ys xs both.1)
  where
    go :
        (b : Bool)
        → eqb x y ≡ b
        → (c : Bool)
        → member x xs ≡ false
        → length (without ys xs) ≤ suc (length (without (y ∷ ys) xs))
        → length (cond c (without ys xs) (x ∷ without ys xs))
        ≤ suc (length (cond (b || c) (without (y ∷ ys) xs) (x ∷ without (y ∷ ys) xs)))
    go true same true apart rest = rest
    go true same false apart rest =
        let e = eqb-true x y same in
        omega (arith, ap length (without-absent y ys xs (rw e at apart)))
    go false same true apart rest = rest
    go false same false apart rest = omega arith

without-none : (xs : List ℕ) → without [] xs ≡ xs
unfolding without member
without-none [] = refl
without-none (x ∷ xs) = ap (λ (l : List ℕ). x ∷ l) (without-none xs)

without-few : (ys xs : List ℕ) → duplicates xs ≡ false → length xs ≤ length (without ys xs) + length ys
without-few [] xs e = omega (arith, ap length (without-none xs))
without-few (y ∷ ys) xs e = omega (arith, without-few ys xs e, one_more y ys xs e)

-- Fewer numbers to leave out, more that are left.
without_fewer :
    (others nets xs : List ℕ)
    → ((x : ℕ) → member x others ≡ true → member x nets ≡ true)
    → length (without nets xs) ≤ length (without others xs)
unfolding without
without_fewer others nets [] within = omega arith
without_fewer others nets (x ∷ xs) within = go (member x others) refl (member x nets) refl (without_fewer others nets xs within)
  where
    go :
        (b : Bool)
        → member x others ≡ b
        → (c : Bool)
        → member x nets ≡ c
        → length (without nets xs) ≤ length (without others xs)
        → length (cond c (without nets xs) (x ∷ without nets xs)) ≤ length (cond b (without others xs) (x ∷ without others xs))
    go true is true isnt rest = rest
    go true is false isnt rest = let no : true ≡ false = cc (within x is) in absurd (true≢false no)
    go false is true isnt rest = omega arith
    go false is false isnt rest = omega arith

-- Of different numbers at most as many are left out as nets cover the others.
pub enough-left :
    (others nets xs : List ℕ)
    → ((x : ℕ) → member x others ≡ true → member x nets ≡ true)
    → duplicates xs ≡ false
    → length xs ≤ length (without others xs) + length nets
enough-left others nets xs within once = omega (arith, without-few nets xs once, without_fewer others nets xs within)
