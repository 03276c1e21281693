-- Different names that all stand in a list are no more than the list has.
use Prim.Native.Nat.{ℕ, zero, suc, ◌+◌, ◌≤◌, ◌<◌}
use Rattle.std.proofs.Common.{arith, sym, ap, ◌∙◌, true≢false}
use Rattle.std.proofs.Math.Decide.{ℕ_discrete}
use Rattle.std.specs.Prelude.{◌≡◌, refl, Bool, false, cond, ◌||◌, List, [], ◌∷◌, ◌++◌, map, length}
use Rattle.std.proofs.Math.Bool.{true}
use Rattle.std.proofs.lemmas.List.{length-map}
use Rattle.meaning.specs.Adder.{up_from}
use Rattle.meaning.specs.Listing.{decimal}
use Rattle.laws.specs.Adder.Nets.{length-up_from}
use Rattle.meaning.specs.ListForm.{Name}
use Rattle.meaning.specs.ListNumbers.{same_name, among, entered}
use Rattle.laws.specs.Texts.Numbering.{same-name, same-itself, among-append, among-entered}
use Rattle.laws.specs.Texts.Shelved.{Inside, in_head, in_tail}

-- No name twice.
data Once : List Name → Type 0 where
  none : Once []
  more : {x : Name} {xs : List Name} → among x xs ≡ false → Once xs → Once (x ∷ xs)

or-none : (t u : Bool) → (t || u) ≡ false → (t ≡ false) × (u ≡ false)
or-none true u e = absurd (let z : ◌≡◌ {A = ℕ} 0 1 = cc in omega arith)
or-none false u e = (refl, e)

differs : (x y : Name) → same_name x y ≡ false → same_name y x ≡ false
differs x y e = go (same_name y x) refl
  where
    go : (t : Bool) → same_name y x ≡ t → t ≡ false
    go false h = refl
    go true h = absurd (true≢false (sym (same-itself x) ∙ ap (same_name x) (sym (same-name y x h)) ∙ e))

-- One more at the end.
once-and : (xs : List Name) (x : Name) → Once xs → among x xs ≡ false → Once (xs ++ (x ∷ []))
unfolding among
once-and [] x none e = more refl none
once-and (y ∷ ys) x (more new once) e =
    let p = or-none (same_name x y) (among x ys) e in
    more (among-append y ys (x ∷ []) ∙ ap (λ (t : Bool). t || (same_name y x || false)) new ∙ ap (λ (t : Bool). t || false) (differs x y p.0))
    (once-and ys x once p.1)

once-entered : (known xs : List Name) → Once known → Once (entered known xs)
unfolding entered
once-entered known [] once = once
once-entered known (x ∷ xs) once = once-entered (cond (among x known) known (known ++ (x ∷ []))) xs (go (among x known) refl)
  where
    go : (t : Bool) → among x known ≡ t → Once (cond t known (known ++ (x ∷ [])))
    go true e = once
    go false e = once-and known x once e

-- A list without the first of a name in it.
unfoldable without : Name → List Name → List Name
without a [] = []
without a (y ∷ ys) = cond (same_name a y) ys (y ∷ without a ys)

length_without : (a : Name) (ys : List Name) → among a ys ≡ true → suc (length (without a ys)) ≡ length ys
unfolding without among
length_without a [] h = absurd (let z : ◌≡◌ {A = ℕ} 0 1 = cc in omega arith)
length_without a (y ∷ ys) h = go (same_name a y) h (length_without a ys)
  where
    go : (t : Bool) → (t || among a ys) ≡ true → (among a ys ≡ true → suc (length (without a ys)) ≡ length ys)
        → suc (length (cond t ys (y ∷ without a ys))) ≡ suc (length ys)
    go true e rest = refl
    go false e rest = ap suc (rest e)

still_in : (a b : Name) (ys : List Name) → same_name a b ≡ false → among a ys ≡ true → among a (without b ys) ≡ true
unfolding without among
still_in a b [] e h = h
still_in a b (y ∷ ys) e h = go (same_name b y) refl (same_name a y) refl h (still_in a b ys e)
  where
    go : (t : Bool) → same_name b y ≡ t → (v : Bool) → same_name a y ≡ v → (v || among a ys) ≡ true
        → (among a ys ≡ true → among a (without b ys) ≡ true) → among a (cond t ys (y ∷ without b ys)) ≡ true
    go true i true j k rest =
        absurd (true≢false (sym j ∙ ap (same_name a) (sym (same-name b y i)) ∙ e))
    go true i false j k rest = k
    go false i true j k rest = ap (λ (v : Bool). v || among a (without b ys)) j
    go false i false j k rest = ap (λ (v : Bool). v || among a (without b ys)) j ∙ rest k

few : (xs ys : List Name) → Once xs → Inside xs ys → length xs ≤ length ys
few [] ys none h = omega arith
few (x ∷ xs) ys (more new once) h =
    let less : length xs ≤ length (without x ys) = few xs (without x ys) once (λ a k. still_in a x ys (other a k) (h a (in_tail a x xs k))) in
    let one : suc (length (without x ys)) ≡ length ys = length_without x ys (h x (in_head x xs)) in
    omega arith
  where
    other : (a : Name) → among a xs ≡ true → same_name a x ≡ false
    other a k = go (same_name a x) refl
      where
        go : (t : Bool) → same_name a x ≡ t → t ≡ false
        go false e = refl
        go true e = absurd (true≢false (sym k ∙ ap (λ (b : Name). among b xs) (same-name a x e) ∙ new))

pub few-entered : (xs ys : List Name) → Inside xs ys → length (entered [] xs) ≤ length ys
unfolding among
few-entered xs ys h = few (entered [] xs) ys (once-entered [] xs none) (λ a k. h a (sym (among-entered a [] xs) ∙ k))

-- Names of a letter and the numbers from one on.
module _ (letter : ℕ) where
  abbrev pub called_from : (first count : ℕ) → List Name
  called_from first count = map (λ n. letter ∷ decimal n) (up_from first count)

  pub called_in : (first count n : ℕ) → first ≤ n → n < first + count → among (letter ∷ decimal n) (called_from first count) ≡ true
  unfolding up_from
  called_in first zero n low high = absurd (omega arith)
  called_in first (suc k) n low high = go (ℕ_discrete first n) (called_in (suc first) k n)
    where
      go : Dec (first ≡ n) → (suc first ≤ n → n < suc first + k → among (letter ∷ decimal n) (called_from (suc first) k) ≡ true)
          → among (letter ∷ decimal n) ((letter ∷ decimal first) ∷ called_from (suc first) k) ≡ true
      go (yes same) later = rw same (in_head (letter ∷ decimal n) (called_from (suc n) k))
      go (no other) later = in_tail (letter ∷ decimal n) (letter ∷ decimal first) (called_from (suc first) k) (later (omega arith) (omega arith))

  pub called-count : (first count : ℕ) → length (called_from first count) ≡ count
  called-count first count = length-map (up_from first count) (λ n. letter ∷ decimal n) ∙ length-up_from first count
