-- How far the nets of a list are new or known: all of them exactly where the tests of rules 11 and 12 hold; else the next one is at fault.
use Rattle.std.specs.Prelude.{ℕ, suc, ◌≤◌, ◌<◌, ◌⊎◌, ◌≡◌, refl, Bool, true, false, cond, not, ◌&&◌, ◌||◌, List, [], ◌∷◌, ◌++◌, ltb, length}
use Rattle.std.proofs.Common.{arith, inl, inr, ◌∙◌, ap, lt-ltb, le-ltb, ltb-true, ltb-false}
use Rattle.meaning.specs.Boxlist.{member, disjoint, duplicates, subset}
use Rattle.meaning.specs.Members.{◌∈◌}
use Rattle.laws.specs.Tests.{if_false}
use Rattle.laws.specs.Members.{here, there, member_in, member-tells}
use Rattle.nets.specs.Members.{member-swap, disjoint-same, disjoint_snoc}
use Rattle.fault_parts.specs.Fronts.{new_front, known_front}

pub new-within : (xs known : List ℕ) → new_front xs known ≤ length xs
unfolding new_front
new-within [] known = omega arith
new-within (x ∷ xs) known = go (member x known) (new-within xs (x ∷ known))
  where
    go : (t : Bool) → new_front xs (x ∷ known) ≤ length xs → cond t 0 (suc (new_front xs (x ∷ known))) ≤ suc (length xs)
    go true h = omega arith
    go false h = omega arith

ltb_suc : (a b : ℕ) → ltb (suc a) (suc b) ≡ ltb a b
ltb_suc a b = go (ltb a b) refl
  where
    go : (t : Bool) → ltb a b ≡ t → ltb (suc a) (suc b) ≡ t
    go true e = lt-ltb (suc a) (suc b) (omega (arith, ltb-true a b e))
    go false e = le-ltb (suc a) (suc b) (omega (arith, ltb-false a b e))

-- An argument that is not known is met exactly where not all of them are.
pub known-all : (xs known : List ℕ) → ltb (known_front xs known) (length xs) ≡ not (subset xs known)
unfolding known_front subset
known-all [] known = refl
known-all (x ∷ xs) known = go (member x known) (known-all xs known)
  where
    go : (t : Bool) → ltb (known_front xs known) (length xs) ≡ not (subset xs known)
        → ltb (cond t (suc (known_front xs known)) 0) (suc (length xs)) ≡ not (t && subset xs known)
    go true h = ltb_suc (known_front xs known) (length xs) ∙ h
    go false h = lt-ltb 0 (suc (length xs)) (omega arith)

-- One more net that is known.
disjoint-cons : (xs known : List ℕ) (x : ℕ) → disjoint xs (x ∷ known) ≡ (disjoint xs known && not (member x xs))
disjoint-cons xs known x =
    disjoint-same (x ∷ known) (known ++ (x ∷ [])) (λ y. member-swap y (x ∷ []) known) xs ∙ disjoint_snoc xs known x

-- A driven net that is not new is met exactly where rule 11 is broken.
pub new-all : (xs known : List ℕ) → ltb (new_front xs known) (length xs) ≡ not (not (duplicates xs) && disjoint xs known)
unfolding new_front duplicates disjoint
new-all [] known = refl
new-all (x ∷ xs) known = go (member x known) (new-all xs (x ∷ known) ∙ ap (λ d. not (not (duplicates xs) && d)) (disjoint-cons xs known x))
  where
    twice : (a : Bool) → true ≡ not (a && false)
    twice true = refl
    twice false = refl

    regroup : (a d j : Bool) → not (not d && (j && not a)) ≡ not (not (a || d) && j)
    regroup true true j = refl
    regroup true false true = refl
    regroup true false false = refl
    regroup false true j = refl
    regroup false false true = refl
    regroup false false false = refl

    go : (t : Bool) → ltb (new_front xs (x ∷ known)) (length xs) ≡ not (not (duplicates xs) && (disjoint xs known && not (member x xs)))
        → ltb (cond t 0 (suc (new_front xs (x ∷ known)))) (suc (length xs))
        ≡ not (not (member x xs || duplicates xs) && (not t && disjoint xs known))
    go true h = lt-ltb 0 (suc (length xs)) (omega arith) ∙ twice (not (member x xs || duplicates xs))
    go false h = ltb_suc (new_front xs (x ∷ known)) (length xs) ∙ h ∙ regroup (member x xs) (duplicates xs) (disjoint xs known)

-- The net behind the front, where there is one.
pub record Next (xs : List ℕ) (many : ℕ) (P : (front : List ℕ) (net : ℕ) → Type 0) : Type 0 where
  pub front : List ℕ
  pub rest : List ℕ
  pub net : ℕ
  pub are : xs ≡ front ++ (net ∷ rest)
  pub long : many ≡ length front
  pub wrong : P front net

pub next-new : (xs known : List ℕ) → new_front xs known < length xs
    → Next xs (new_front xs known) (λ front net. (net ∈ front) ⊎ (net ∈ known))
unfolding new_front
next-new [] known l = absurd (omega arith)
next-new (x ∷ xs) known l = go (member x known) refl l (next-new xs (x ∷ known))
  where
    moved : {front : List ℕ} {net : ℕ} → (net ∈ front) ⊎ (net ∈ (x ∷ known)) → (net ∈ (x ∷ front)) ⊎ (net ∈ known)
    moved (inl i) = inl (there i)
    moved (inr (here e)) = inl (here e)
    moved (inr (there i)) = inr i

    go : (t : Bool) → member x known ≡ t → cond t 0 (suc (new_front xs (x ∷ known))) < suc (length xs)
        → (new_front xs (x ∷ known) < length xs → Next xs (new_front xs (x ∷ known)) (λ front net. (net ∈ front) ⊎ (net ∈ (x ∷ known))))
        → Next (x ∷ xs) (cond t 0 (suc (new_front xs (x ∷ known)))) (λ front net. (net ∈ front) ⊎ (net ∈ known))
    go true e l further = record { front = []; rest = xs; net = x; are = refl; long = refl; wrong = inr (member_in x known e) }
    go false e l further =
        let n = further (omega arith) in
        record { front = x ∷ n.front; rest = n.rest; net = n.net; are = ap (λ ys. x ∷ ys) n.are; long = ap suc n.long; wrong = moved n.wrong }

pub next_known : (xs known : List ℕ) → known_front xs known < length xs → Next xs (known_front xs known) (λ front net. ¬ (net ∈ known))
unfolding known_front
next_known [] known l = absurd (omega arith)
next_known (x ∷ xs) known l = go (member x known) refl l (next_known xs known)
  where
    go : (t : Bool) → member x known ≡ t → cond t (suc (known_front xs known)) 0 < suc (length xs)
        → (known_front xs known < length xs → Next xs (known_front xs known) (λ front net. ¬ (net ∈ known)))
        → Next (x ∷ xs) (cond t (suc (known_front xs known)) 0) (λ front net. ¬ (net ∈ known))
    go false e l further = record { front = []; rest = xs; net = x; are = refl; long = refl; wrong = if_false (member-tells x known) e }
    go true e l further =
        let n = further (omega arith) in
        record { front = x ∷ n.front; rest = n.rest; net = n.net; are = ap (λ ys. x ∷ ys) n.are; long = ap suc n.long; wrong = n.wrong }
