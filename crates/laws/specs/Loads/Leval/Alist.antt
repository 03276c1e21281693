-- Association lists of loadings, as LEVAL of document 000 keeps them: what a name reads as after costs are added and after pairs are put
-- in front, and the largest loading as the least number that none is above.
use Rattle.std.specs.Prelude.{ℕ, ◌+◌, ◌≤◌, max, ◌≡◌, refl, Bool, true, false, cond, List, [], ◌∷◌, ◌++◌, map, eqb}
use Rattle.std.proofs.Common.{sym, ap, ap₂, ◌∙◌, arith, eqb-true, eq-eqb, ne_eqb}
use Rattle.std.proofs.lemmas.Bool.{eqb-false}
use Rattle.meaning.specs.Members.{◌∈◌, Twice, again, further}
use Rattle.meaning.specs.Loads.{places_load}
use Rattle.meaning.specs.Leval.{Pair, loading_of, collect_assoc, pairlist, add_to, add_to_alist, max_alist_val}
use Rattle.laws.specs.Members.{here, there, in-none, same_in}
use Rattle.laws.specs.Loads.Places.{load-nowhere, none-either_way}

abbrev pub names : List Pair → List ℕ
names = map (λ p. p.name)

pub names-of-pairlist : (xs ls : List ℕ) → names (pairlist xs ls) ≡ xs
unfolding pairlist
names-of-pairlist [] ls = refl
names-of-pairlist (x ∷ xs) [] = ap (◌∷◌ x) (names-of-pairlist xs [])
names-of-pairlist (x ∷ xs) (l ∷ ls) = ap (◌∷◌ x) (names-of-pairlist xs ls)

names-of-add_to : (name cost : ℕ) (alist : List Pair) → names (add_to name cost alist) ≡ names alist
unfolding add_to
names-of-add_to name cost [] = refl
names-of-add_to name cost (p ∷ alist) = go (eqb name p.name) (names-of-add_to name cost alist)
  where
    go :
        (b : Bool)
        → names (add_to name cost alist) ≡ names alist
        → names (cond b (record { name = p.name; loading = p.loading + cost } ∷ alist) (p ∷ add_to name cost alist))
        ≡ names (p ∷ alist)
    go true rest = refl
    go false rest = ap (◌∷◌ p.name) rest

pub names-of-add_to_alist : (args costs : List ℕ) (alist : List Pair) → names (add_to_alist args costs alist) ≡ names alist
unfolding add_to_alist
names-of-add_to_alist [] costs alist = refl
names-of-add_to_alist (x ∷ args) [] alist = refl
names-of-add_to_alist (x ∷ args) (c ∷ costs) alist =
    names-of-add_to_alist args costs (add_to x c alist) ∙ names-of-add_to x c alist

-- A name that is not bound reads as 0.
pub unbound : (x : ℕ) (alist : List Pair) → ¬ (x ∈ names alist) → loading_of x alist ≡ 0
unfolding loading_of
unbound x [] out = refl
unbound x (p ∷ alist) out = rw (ne_eqb x p.name (λ e. out (here e))) (unbound x alist (λ i. out (there i)))

loading-of-add_to :
    (x name cost : ℕ) (alist : List Pair)
    → name ∈ names alist
    → loading_of x (add_to name cost alist) ≡ loading_of x alist + cond (eqb x name) cost 0
unfolding loading_of add_to
loading-of-add_to x name cost [] i = absurd (in-none i)
loading-of-add_to x name cost (p ∷ alist) i = go (eqb name p.name) refl i (loading-of-add_to x name cost alist)
  where
    found : (b : Bool) (rest : ℕ) → cond b (p.loading + cost) rest ≡ cond b p.loading rest + cond b cost 0
    found true rest = refl
    found false rest = omega arith

    further-on :
        (b : Bool)
        → eqb x p.name ≡ b
        → ¬ (name ≡ p.name)
        → loading_of x (add_to name cost alist) ≡ loading_of x alist + cond (eqb x name) cost 0
        → cond b p.loading (loading_of x (add_to name cost alist))
        ≡ cond b p.loading (loading_of x alist) + cond (eqb x name) cost 0
    further-on true e other same = rw (ne_eqb x name (λ k. other (sym k ∙ eqb-true x p.name e))) (omega arith)
    further-on false e other same = same

    go :
        (b : Bool)
        → eqb name p.name ≡ b
        → name ∈ names (p ∷ alist)
        → (name ∈ names alist → loading_of x (add_to name cost alist) ≡ loading_of x alist + cond (eqb x name) cost 0)
        → loading_of x (cond b (record { name = p.name; loading = p.loading + cost } ∷ alist) (p ∷ add_to name cost alist))
        ≡ loading_of x (p ∷ alist) + cond (eqb x name) cost 0
    go true e i rest = rw (eqb-true name p.name e) (found (eqb x p.name) (loading_of x alist))
    go false e (here same) rest = absurd (eqb-false name p.name e same)
    go false e (there j) rest = further-on (eqb x p.name) refl (eqb-false name p.name e) (rest j)

pub loading-of-add_to_alist :
    (x : ℕ) (args costs : List ℕ) (alist : List Pair)
    → ((t : ℕ) → t ∈ args → t ∈ names alist)
    → loading_of x (add_to_alist args costs alist) ≡ loading_of x alist + places_load x args costs
unfolding add_to_alist places_load
loading-of-add_to_alist x [] costs alist bound = omega arith
loading-of-add_to_alist x (t ∷ args) [] alist bound = omega arith
loading-of-add_to_alist x (t ∷ args) (c ∷ costs) alist bound =
    omega (
      arith,
      loading-of-add_to x t c alist (bound t (here refl)),
      loading-of-add_to_alist x args costs (add_to t c alist) (λ u i. rw names-of-add_to (bound u (there i))),
    )

-- A new name in front.
pair_in_front :
    (x y l : ℕ) (ys ls : List ℕ) (alist : List Pair)
    → ¬ (y ∈ ys)
    → ¬ (y ∈ names alist)
    → loading_of x (pairlist ys ls ++ alist) ≡ loading_of x alist + places_load x ys ls
    → cond (eqb x y) l (loading_of x (pairlist ys ls ++ alist)) ≡ loading_of x alist + (cond (eqb x y) l 0 + places_load x ys ls)
pair_in_front x y l ys ls alist once fresh rest = go (eqb x y) refl
  where
    go :
        (b : Bool)
        → eqb x y ≡ b
        → cond b l (loading_of x (pairlist ys ls ++ alist)) ≡ loading_of x alist + (cond b l 0 + places_load x ys ls)
    go true e =
        let same : x ≡ y = eqb-true x y e in
        omega (arith, unbound x alist (rw same fresh), load-nowhere x ys ls (rw same once))
    go false e = omega arith

pub loading-of-pairlist :
    (x : ℕ) (xs ls : List ℕ) (alist : List Pair)
    → ¬ (Twice xs)
    → ((t : ℕ) → t ∈ xs → ¬ (t ∈ names alist))
    → loading_of x (pairlist xs ls ++ alist) ≡ loading_of x alist + places_load x xs ls
unfolding loading_of pairlist places_load
loading-of-pairlist x [] ls alist once fresh = omega arith
loading-of-pairlist x (y ∷ ys) [] alist once fresh =
    let rest = loading-of-pairlist x ys [] alist (λ t. once (further t)) (λ t i. fresh t (there i)) in
    omega (
      arith,
      pair_in_front x y 0 ys [] alist (λ i. once (again i)) (fresh y (here refl)) rest,
      none-either_way (eqb x y),
      nothing ys,
    )
  where
    nothing : (zs : List ℕ) → places_load x zs [] ≡ 0
    nothing [] = refl
    nothing (z ∷ zs) = refl
loading-of-pairlist x (y ∷ ys) (l ∷ ls) alist once fresh =
    pair_in_front x y l ys ls alist (λ i. once (again i)) (fresh y (here refl))
    (loading-of-pairlist x ys ls alist (λ t. once (further t)) (λ t i. fresh t (there i)))

-- The largest loading.
pub loading-below : (x : ℕ) (alist : List Pair) → loading_of x alist ≤ max_alist_val alist
unfolding loading_of max_alist_val
loading-below x [] = omega arith
loading-below x (p ∷ alist) = go (eqb x p.name) (loading-below x alist)
  where
    go : (b : Bool) → loading_of x alist ≤ max_alist_val alist → cond b p.loading (loading_of x alist) ≤ max p.loading (max_alist_val alist)
    go true rest = omega arith
    go false rest = omega arith

pub loading-least :
    (n : ℕ) (alist : List Pair)
    → ¬ (Twice (names alist))
    → ((x : ℕ) → x ∈ names alist → loading_of x alist ≤ n)
    → max_alist_val alist ≤ n
unfolding loading_of max_alist_val
loading-least n [] once h = omega arith
loading-least n (p ∷ alist) once h =
    omega (
      arith,
      rw (eq-eqb p.name p.name refl) at (h p.name (here refl)),
      loading-least n alist (λ t. once (further t))
          (λ x i. rw (ne_eqb x p.name (λ e. once (again (same_in (sym e) i)))) at (h x (there i))),
    )

-- What names read as, in order.
pub collected :
    (load : ℕ → ℕ) (xs : List ℕ) (alist : List Pair)
    → ((x : ℕ) → loading_of x alist ≡ load x)
    → collect_assoc xs alist ≡ map load xs
unfolding collect_assoc
collected load [] alist same = refl
collected load (x ∷ xs) alist same = ap₂ {C = List ℕ} ◌∷◌ (same x) (collected load xs alist same)
