-- Places and the loads at them: what `places_load` adds up for a net that stands nowhere, once, or somewhere; the largest of loads as the
-- least number that none of them is above; and loads of occurrences one after the other.
use Rattle.std.specs.Prelude.{ℕ, ◌+◌, ◌≤◌, ◌≡◌, refl, Bool, true, false, cond, List, [], ◌∷◌, ◌++◌, map, eqb, length}
use Rattle.std.proofs.Common.{sym, arith, eqb-true, eq-eqb, ne_eqb}
use Rattle.std.proofs.lemmas.Bool.{eqb-false}
use Rattle.meaning.specs.Syntax.{Occurrence}
use Rattle.meaning.specs.Members.{◌∈◌, Twice, again, further}
use Rattle.meaning.specs.Evaluation.{Env, look, pairs}
use Rattle.meaning.specs.Figures.{largest}
use Rattle.meaning.specs.Loads.{places_load, Loads, net_load}
use Rattle.laws.specs.Members.{here, there, in-none, same_in}

pub largest-has : (f : ℕ → ℕ) (xs : List ℕ) {x : ℕ} → x ∈ xs → f x ≤ largest (map f xs)
unfolding largest
largest-has f [] i = absurd (in-none i)
largest-has f (y ∷ ys) (here e) = rw e (omega arith)
largest-has f (y ∷ ys) (there i) = omega (arith, largest-has f ys i)

pub largest-least : (f : ℕ → ℕ) (xs : List ℕ) (n : ℕ) → ((x : ℕ) → x ∈ xs → f x ≤ n) → largest (map f xs) ≤ n
unfolding largest
largest-least f [] n h = omega arith
largest-least f (x ∷ xs) n h = omega (arith, h x (here refl), largest-least f xs n (λ y i. h y (there i)))

-- A net that stands at no place has no load there, nor has any net at a place without load.
pub load-nowhere : (net : ℕ) (xs ls : List ℕ) → ¬ (net ∈ xs) → places_load net xs ls ≡ 0
unfolding places_load
load-nowhere net [] ls out = refl
load-nowhere net (x ∷ xs) [] out = refl
load-nowhere net (x ∷ xs) (l ∷ ls) out =
    rw (ne_eqb net x (λ e. out (here e))) (omega (arith, load-nowhere net xs ls (λ i. out (there i))))

pub none-either_way : (b : Bool) → ◌≡◌ {A = ℕ} (cond b 0 0) 0
none-either_way true = refl
none-either_way false = refl

pub load-none : (net : ℕ) (xs : List ℕ) → places_load net xs (0 ∷ []) ≡ 0
unfolding places_load
load-none net [] = refl
load-none net (x ∷ []) = omega (arith, none-either_way (eqb net x))
load-none net (x ∷ y ∷ ys) = omega (arith, none-either_way (eqb net x))

-- A net that stands once has one of the loads, and each load is part of the load of the net that stands at its place.
pub load-once : (net : ℕ) (xs ls : List ℕ) → ¬ (Twice xs) → places_load net xs ls ≤ largest ls
unfolding places_load largest
load-once net [] ls once = omega arith
load-once net (x ∷ xs) [] once = omega arith
load-once net (x ∷ xs) (l ∷ ls) once = go (eqb net x) refl (load-once net xs ls (λ t. once (further t)))
  where
    go :
        (b : Bool)
        → eqb net x ≡ b
        → places_load net xs ls ≤ largest ls
        → cond b l 0 + places_load net xs ls ≤ largest (l ∷ ls)
    go true e rest = omega (arith, load-nowhere net xs ls (λ i. once (again (same_in (sym (eqb-true net x e)) i))))
    go false e rest = omega arith

pub load_somewhere :
    (xs ls : List ℕ) (n : ℕ)
    → length ls ≡ length xs
    → ((x : ℕ) → x ∈ xs → places_load x xs ls ≤ n)
    → largest ls ≤ n
unfolding places_load largest
load_somewhere xs [] n count h = omega arith
load_somewhere [] (l ∷ ls) n count h = absurd (omega arith)
load_somewhere (x ∷ xs) (l ∷ ls) n count h =
    omega (
      arith,
      rw (eq-eqb x x refl) at (h x (here refl)),
      load_somewhere xs ls n (omega arith) (λ y i. omega (arith, h y (there i))),
    )

-- Where the loads are those of the nets that the places are given, a net has the load of the net that it is given.
pub load_given :
    (load : ℕ → ℕ) (env : Env ℕ) (xs nets : List ℕ)
    → ¬ (Twice xs)
    → length xs ≡ length nets
    → (x : ℕ)
    → x ∈ xs
    → places_load x xs (map load nets) ≡ load (look 0 x (pairs 0 xs nets ++ env))
unfolding places_load look pairs
load_given load env [] nets once count x i = absurd (in-none i)
load_given load env (y ∷ ys) [] once count x i = absurd (omega arith)
load_given load env (y ∷ ys) (net ∷ nets) once count x i =
    go (eqb x y) refl i (load_given load env ys nets (λ t. once (further t)) (omega arith) x)
  where
    go :
        (b : Bool)
        → eqb x y ≡ b
        → x ∈ (y ∷ ys)
        → (x ∈ ys → places_load x ys (map load nets) ≡ load (look 0 x (pairs 0 ys nets ++ env)))
        → cond b (load net) 0 + places_load x ys (map load nets) ≡ load (cond b net (look 0 x (pairs 0 ys nets ++ env)))
    go true e i rest =
        omega (arith, load-nowhere x ys (map load nets) (λ j. once (again (same_in (sym (eqb-true x y e)) j))))
    go false e (here same) rest = absurd (eqb-false x y e same)
    go false e (there j) rest = omega (arith, rest j)

-- Occurrences one after the other.
pub net_load-append :
    (later : ℕ → Loads) (os ps : List Occurrence) (net : ℕ) → net_load later (os ++ ps) net ≡ net_load later os net + net_load later ps net
unfolding net_load
net_load-append later [] ps net = omega arith
net_load-append later (o ∷ os) ps net = omega (arith, net_load-append later os ps net)
