-- How a result by fillings is found piece by piece. Where no argument is used twice, nothing is lost by going through results of
-- parts: a function of one result, a function folded over the arguments, a function of the first arguments only.
use Rattle.std.specs.Prelude.{ℕ, zero, suc, Bool, true, false, ◌≡◌, refl, length, get_or, drop}
use mathlib.Core.List.{List, [], ◌∷◌, foldr}
use Rattle.std.proofs.Common.{ap, ap₂, ◌∙◌}
use Rattle.meaning.specs.Values.{Val, known, un, common, by_fillings}
use Rattle.meaning.specs.Gates.{one, two}
use Rattle.laws.specs.Fillings.{Gives, known_exactly, unknown_exactly}

-- A function of what another gives: the one's result on the other's result.
pub after : (g : Bool → Bool) (f : List Bool → Bool) (vs : List Val)
    → by_fillings (λ bs. g (f bs)) vs ≡ by_fillings (one g).function (by_fillings f vs ∷ [])
unfolding by_fillings
after g f vs = go (by_fillings f vs) refl
  where
    both : {p : Bool} → g false ≡ p → g true ≡ p → (b : Bool) → g b ≡ p
    both e k false = e
    both e k true = k

    then : {b c : Bool} → g b ≡ c → Gives f vs b → Gives (λ bs. g (f bs)) vs c
    then e r = record { filling = r.filling; fills = r.fills; gives = ap g r.gives ∙ e }

    differing : (p q : Bool) → g false ≡ p → g true ≡ q → Gives f vs false × Gives f vs true
        → by_fillings (λ bs. g (f bs)) vs ≡ common (known p) (known q)
    differing false false e k r = (known_exactly (λ bs. g (f bs)) vs false).1 (λ bs _. both e k (f bs))
    differing false true e k r = (unknown_exactly (λ bs. g (f bs)) vs).1 (then e r.0, then k r.1)
    differing true false e k r = (unknown_exactly (λ bs. g (f bs)) vs).1 (then k r.1, then e r.0)
    differing true true e k r = (known_exactly (λ bs. g (f bs)) vs true).1 (λ bs _. both e k (f bs))

    go : (v : Val) → by_fillings f vs ≡ v → by_fillings (λ bs. g (f bs)) vs ≡ by_fillings (one g).function (v ∷ [])
    go (known b) e = (known_exactly (λ bs. g (f bs)) vs (g b)).1 (λ bs r. ap g ((known_exactly f vs b).0 e bs r))
    go un e = differing (g false) (g true) refl refl ((unknown_exactly f vs).0 e)

-- A function of two folded over the arguments: one step of the fold is its gate of two arguments.
pub fold_step : (f : Bool → Bool → Bool) (z : Bool) (v : Val) (vs : List Val)
    → by_fillings (foldr f z) (v ∷ vs) ≡ by_fillings (two f).function (v ∷ by_fillings (foldr f z) vs ∷ [])
unfolding by_fillings
fold_step f z (known b) vs = after (f b) (foldr f z) vs
fold_step f z un vs = ap₂ common (after (f false) (foldr f z) vs) (after (f true) (foldr f z) vs)

pub constant : (b : Bool) (vs : List Val) → by_fillings (λ bs. b) vs ≡ known b
constant b vs = (known_exactly (λ bs. b) vs b).1 (λ bs r. refl)

-- The first n of a list, with d for each that is missing.
abbrev pub firsts : {A : Type 0} → A → ℕ → List A → List A
firsts d zero xs = []
firsts d (suc n) xs = get_or xs 0 d ∷ firsts d n (drop 1 xs)

pub firsts-all : {A : Type 0} (d : A) (xs : List A) → firsts d (length xs) xs ≡ xs
firsts-all d [] = refl
firsts-all d (x ∷ xs) = ap (◌∷◌ x) (firsts-all d xs)

-- A function that looks at the first n arguments, missing ones as false.
pub on-firsts : (f : List Bool → Bool) (n : ℕ) (vs : List Val)
    → by_fillings (λ bs. f (firsts false n bs)) vs ≡ by_fillings f (firsts (known false) n vs)
unfolding by_fillings
on-firsts f zero vs = constant (f []) vs
on-firsts f (suc n) [] = on-firsts (λ bs. f (false ∷ bs)) n []
on-firsts f (suc n) (known b ∷ vs) = on-firsts (λ bs. f (b ∷ bs)) n vs
on-firsts f (suc n) (un ∷ vs) = ap₂ common (on-firsts (λ bs. f (false ∷ bs)) n vs) (on-firsts (λ bs. f (true ∷ bs)) n vs)
