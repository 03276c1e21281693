-- The names of modules known while a text is read stand behind the sixteen gates, so that a name's number is its position.
use Rattle.std.specs.Prelude.{ℕ, suc, ◌+◌, ◌≤◌, ◌≡◌, refl, Bool, true, false, cond, not, ◌&&◌, ◌||◌, List, [], ◌∷◌, ◌++◌, leb, length}
use Rattle.std.proofs.Common.{arith, sym, ◌∙◌, ap, append-nil, append_assoc, length-append, leb-true, leb-false, le-leb}
use Rattle.std.proofs.lemmas.Bool.{lt-leb}
use Rattle.meaning.specs.ListForm.{Name}
use Rattle.meaning.specs.ListNumbers.{spelling, gate_names, same_name, among, position, entered, apart_from_gates, number_among}
use Rattle.meaning.specs.ListCall.{new_over, most_net_names, most_module_names}
use Rattle.laws.specs.Texts.Numbering.{or-true, same-itself, among-append, among-entered, position-front, Behind}

-- Entered behind the gates, a name that is a gate's is no new one.
pub behind-gates : (known xs : List Name) → entered (gate_names ++ known) xs ≡ gate_names ++ entered known (apart_from_gates xs)
unfolding entered apart_from_gates
behind-gates known [] = refl
behind-gates known (x ∷ xs) = go (among x gate_names) refl (among x known) refl (behind-gates known xs) (behind-gates (known ++ (x ∷ [])) xs)
  where
    is : (t : Bool) → among x gate_names ≡ t → (u : Bool) → among x known ≡ u → among x (gate_names ++ known) ≡ (t || u)
    is t e u h = among-append x gate_names known ∙ ap (λ v. v || among x known) e ∙ ap (λ v. t || v) h

    go : (t : Bool) → among x gate_names ≡ t → (u : Bool) → among x known ≡ u
        → entered (gate_names ++ known) xs ≡ gate_names ++ entered known (apart_from_gates xs)
        → entered (gate_names ++ (known ++ (x ∷ []))) xs ≡ gate_names ++ entered (known ++ (x ∷ [])) (apart_from_gates xs)
        → entered (cond (among x (gate_names ++ known)) (gate_names ++ known) ((gate_names ++ known) ++ (x ∷ []))) xs
        ≡ gate_names ++ entered known (cond t (apart_from_gates xs) (x ∷ apart_from_gates xs))
    go true e u h old new = rw (is true e u h) old
    go false e true h old new =
        ap (λ t. entered (cond t (gate_names ++ known) ((gate_names ++ known) ++ (x ∷ []))) xs) (is false e true h)
        ∙ old
        ∙ ap (λ t. gate_names ++ entered (cond t known (known ++ (x ∷ []))) (apart_from_gates xs)) (sym h)
    go false e false h old new =
        ap (λ t. entered (cond t (gate_names ++ known) ((gate_names ++ known) ++ (x ∷ []))) xs) (is false e false h)
        ∙ ap (λ l. entered l xs) (append_assoc gate_names known (x ∷ []))
        ∙ new
        ∙ ap (λ t. gate_names ++ entered (cond t known (known ++ (x ∷ []))) (apart_from_gates xs)) (sym h)

position-apart : (a : Name) (xs ys : List Name) → among a xs ≡ false → position a (xs ++ ys) ≡ length xs + position a ys
unfolding among position
position-apart a [] ys e = omega arith
position-apart a (x ∷ xs) ys e = go (same_name a x) e (position-apart a xs ys)
  where
    go : (t : Bool) → (t || among a xs) ≡ false → (among a xs ≡ false → position a (xs ++ ys) ≡ length xs + position a ys)
        → cond t 0 (suc (position a (xs ++ ys))) ≡ suc (length xs) + position a ys
    go true h rest = absurd (let z : ◌≡◌ {A = ℕ} 0 1 = cc in omega arith)
    go false h rest = let one : _ = rest h in omega arith

sixteen : length gate_names ≡ 16
unfolding gate_names
sixteen = refl

-- The number of a name is its position behind the gates.
pub number_is : (names : List Name) (a : Name) → position a (gate_names ++ names) ≡ number_among names a
unfolding number_among
number_is names a = go (among a gate_names) refl
  where
    go : (t : Bool) → among a gate_names ≡ t → position a (gate_names ++ names) ≡ cond t (position a gate_names) (16 + position a names)
    go true e = position-front a gate_names names e
    go false e = position-apart a gate_names names e ∙ ap (λ n. n + position a names) sixteen

-- What is known, whatever else is known later.
pub position_later : (a : Name) (known more : List Name) → among a known ≡ true → Behind known more → position a more ≡ position a known
position_later a known more e b = ap (position a) b.is ∙ position-front a known b.new e

-- One more name is known then.
pub entered-one : (known : List Name) (a : Name) → entered known (a ∷ []) ≡ cond (among a known) known (known ++ (a ∷ []))
unfolding entered
entered-one known a = refl

pub entered-known : (known : List Name) (a : Name) → among a (entered known (a ∷ [])) ≡ true
unfolding among
entered-known known a =
    among-entered a known (a ∷ []) ∙ ap (λ t. among a known || (t || false)) (same-itself a) ∙ or-true (among a known)

-- No number is left for a new name exactly if 16,384 are given out.
pub nets-full : (before : List Name) (a : Name) (known : List Name) → known ≡ entered [] before
    → new_over most_net_names before a ≡ (not (among a known) && leb 16384 (length known))
unfolding among
nets-full before a known e =
    ap (λ t. not t && leb 16384 (length (entered [] before))) (sym (among-entered a [] before))
    ∙ ap (λ l. not (among a l) && leb 16384 (length l)) (sym e)

leb_sixteen : (n : ℕ) → leb 16368 n ≡ leb 16384 (16 + n)
leb_sixteen n = go (leb 16368 n) refl
  where
    go : (t : Bool) → leb 16368 n ≡ t → t ≡ leb 16384 (16 + n)
    go true e = let l : 16368 ≤ n = leb-true 16368 n e in sym (le-leb 16384 (16 + n) (omega arith))
    go false e = let l : suc n ≤ 16368 = leb-false 16368 n e in sym (lt-leb 16384 (16 + n) (omega arith))

pub names-full : (before : List Name) (a : Name) (known : List Name) → known ≡ entered gate_names before
    → (not (among a gate_names) && new_over most_module_names (apart_from_gates before) a) ≡ (not (among a known) && leb 16384 (length known))
unfolding among
names-full before a known e =
    go (among a gate_names) refl ∙ ap (λ l. not (among a l) && leb 16384 (length l)) (sym is)
  where
    is : known ≡ gate_names ++ entered [] (apart_from_gates before)
    is = e ∙ ap (λ g. entered g before) (sym (append-nil gate_names)) ∙ behind-gates [] before

    inside : among a (gate_names ++ entered [] (apart_from_gates before)) ≡ (among a gate_names || among a (apart_from_gates before))
    inside = among-append a gate_names (entered [] (apart_from_gates before)) ∙ ap (λ t. among a gate_names || t) (among-entered a [] (apart_from_gates before))

    long : leb 16384 (length (gate_names ++ entered [] (apart_from_gates before))) ≡ leb 16368 (length (entered [] (apart_from_gates before)))
    long = ap (leb 16384) (length-append gate_names (entered [] (apart_from_gates before)) ∙ ap (λ n. n + length (entered [] (apart_from_gates before))) sixteen)
        ∙ sym (leb_sixteen (length (entered [] (apart_from_gates before))))

    go : (t : Bool) → among a gate_names ≡ t
        → (not t && new_over most_module_names (apart_from_gates before) a)
        ≡ (not (among a (gate_names ++ entered [] (apart_from_gates before))) && leb 16384 (length (gate_names ++ entered [] (apart_from_gates before))))
    go true h = rw (inside, h)
    go false h = rw (inside, h, long)
