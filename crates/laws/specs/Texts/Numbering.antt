-- Numbers by first appearance: how the list of known names grows, and that a number once given stays.
use Rattle.std.specs.Prelude.{ℕ, zero, suc, ◌+◌, ◌≤◌, ◌<◌, ◌≡◌, refl, Bool, true, false, cond, not, ◌&&◌, ◌||◌, List, [], ◌∷◌, ◌++◌, leb, eqb, length}
use Rattle.std.proofs.Common.{arith, sym, ◌∙◌, ap, append-nil, append_assoc, length-append, leb-false, eq-eqb, eqb-true}
use Rattle.meaning.specs.ListForm.{Name}
use Rattle.meaning.specs.ListNumbers.{gate_names, same_name, among, position, entered, each_name, apart_from_gates}
use Rattle.meaning.specs.ListCall.{full, new_over}

pub or-false : (t : Bool) → (t || false) ≡ t
or-false true = refl
or-false false = refl

pub or_assoc : (t u v : Bool) → ((t || u) || v) ≡ (t || (u || v))
or_assoc true u v = refl
or_assoc false u v = refl

pub or-true : (t : Bool) → (t || true) ≡ true
or-true true = refl
or-true false = refl

pub same-name : (a b : Name) → same_name a b ≡ true → a ≡ b
unfolding same_name
same-name [] [] h = refl
same-name [] (b ∷ bs) h = absurd (let z : ◌≡◌ {A = ℕ} 0 1 = cc in omega arith)
same-name (a ∷ as') [] h = absurd (let z : ◌≡◌ {A = ℕ} 0 1 = cc in omega arith)
same-name (a ∷ as') (b ∷ bs) h = go (eqb a b) refl (same-name as' bs) h
  where
    go : (t : Bool) → eqb a b ≡ t → (same_name as' bs ≡ true → as' ≡ bs) → (t && same_name as' bs) ≡ true → (a ∷ as') ≡ (b ∷ bs)
    go true e more k = let one : a ≡ b = eqb-true a b e in let rest : as' ≡ bs = more k in cc
    go false e more k = absurd (let z : ◌≡◌ {A = ℕ} 0 1 = cc in omega arith)

pub same-itself : (a : Name) → same_name a a ≡ true
unfolding same_name
same-itself [] = refl
same-itself (b ∷ bs) = rw (eq-eqb b b refl, same-itself bs)

pub among-append : (a : Name) (xs ys : List Name) → among a (xs ++ ys) ≡ (among a xs || among a ys)
unfolding among
among-append a [] ys = refl
among-append a (x ∷ xs) ys = rw (among-append a xs ys, or_assoc (same_name a x) (among a xs) (among a ys))

pub entered-append : (known xs ys : List Name) → entered known (xs ++ ys) ≡ entered (entered known xs) ys
unfolding entered
entered-append known [] ys = refl
entered-append known (x ∷ xs) ys = entered-append (cond (among x known) known (known ++ (x ∷ []))) xs ys

-- Entering names keeps those that are known, in front.
pub record Behind (known more : List Name) : Type 0 where
  pub new : List Name
  pub is : more ≡ known ++ new

pub behind-itself : (known : List Name) → Behind known known
behind-itself known = record { new = []; is = sym (append-nil known) }

pub behind-behind : {a b c : List Name} → Behind a b → Behind b c → Behind a c
behind-behind {a} h k = record { new = h.new ++ k.new; is = rw (k.is, h.is, append_assoc) }

pub behind-one : (known : List Name) (x : Name) (t : Bool) → Behind known (cond t known (known ++ (x ∷ [])))
behind-one known x true = behind-itself known
behind-one known x false = record { new = x ∷ []; is = refl }

pub entered-behind : (known xs : List Name) → Behind known (entered known xs)
unfolding entered
entered-behind known [] = behind-itself known
entered-behind known (x ∷ xs) =
    behind-behind (behind-one known x (among x known)) (entered-behind (cond (among x known) known (known ++ (x ∷ []))) xs)

-- A number once given stays, and is below the count of names.
pub position-front : (a : Name) (xs ys : List Name) → among a xs ≡ true → position a (xs ++ ys) ≡ position a xs
unfolding position among
position-front a [] ys h = absurd (let z : ◌≡◌ {A = ℕ} 0 1 = cc in omega arith)
position-front a (x ∷ xs) ys h = go (same_name a x) h (position-front a xs ys)
  where
    go : (t : Bool) → (t || among a xs) ≡ true → (among a xs ≡ true → position a (xs ++ ys) ≡ position a xs)
        → cond t 0 (suc (position a (xs ++ ys))) ≡ cond t 0 (suc (position a xs))
    go true e rest = refl
    go false e rest = ap suc (rest e)

pub position-stays : (a : Name) (known xs : List Name) → among a known ≡ true → position a (entered known xs) ≡ position a known
position-stays a known xs h =
    let b : Behind known (entered known xs) = entered-behind known xs in
    rw b.is (position-front a known b.new h)

pub position-below : (a : Name) (xs : List Name) → among a xs ≡ true → position a xs < length xs
unfolding position among
position-below a [] h = absurd (let z : ◌≡◌ {A = ℕ} 0 1 = cc in omega arith)
position-below a (x ∷ xs) h = go (same_name a x) h (position-below a xs)
  where
    go : (t : Bool) → (t || among a xs) ≡ true → (among a xs ≡ true → position a xs < length xs)
        → cond t 0 (suc (position a xs)) < suc (length xs)
    go true e rest = omega arith
    go false e rest = let l : _ = rest e in omega arith

-- What is entered is what was known and what was given.
among_one : (a x : Name) (known : List Name) (t : Bool) → among x known ≡ t
    → among a (cond t known (known ++ (x ∷ []))) ≡ (among a known || same_name a x)
unfolding among
among_one a x known true e = go (same_name a x) refl
  where
    go : (v : Bool) → same_name a x ≡ v → among a known ≡ (among a known || v)
    go true h = let is : among a known ≡ true = ap (λ b. among b known) (same-name a x h) ∙ e in rw is
    go false h = sym (or-false (among a known))
among_one a x known false e = among-append a known (x ∷ []) ∙ ap (λ v. among a known || v) (or-false (same_name a x))

pub among-entered : (a : Name) (known xs : List Name) → among a (entered known xs) ≡ (among a known || among a xs)
unfolding entered among
among-entered a known [] = sym (or-false (among a known))
among-entered a known (x ∷ xs) =
    among-entered a (cond (among x known) known (known ++ (x ∷ []))) xs
    ∙ ap (λ v. v || among a xs) (among_one a x known (among x known) refl)
    ∙ or_assoc (among a known) (same_name a x) (among a xs)

-- One name more, where it is known or there is room for it.
pub more-fits : (most : ℕ) (known : List Name) (a : Name) → new_over most known a ≡ false → length (entered [] known) ≤ most
    → length (entered [] (known ++ (a ∷ []))) ≤ most
unfolding entered among
more-fits most known a e l =
    rw (entered-append [] known (a ∷ [])) (go (among a known) (among-entered a [] known) (leb most (length (entered [] known))) refl e)
  where
    go : (t : Bool) → among a (entered [] known) ≡ t → (v : Bool) → leb most (length (entered [] known)) ≡ v → (not t && v) ≡ false
        → length (cond (among a (entered [] known)) (entered [] known) (entered [] known ++ (a ∷ []))) ≤ most
    go true h v k z = rw h l
    go false h true k z = absurd (let o : ◌≡◌ {A = ℕ} 0 1 = cc in omega arith)
    go false h false k z =
        let room : length (entered [] known) < most = leb-false most (length (entered [] known)) k in
        rw (h, length-append) (omega arith)
