-- Where nets stand: a net's slot is below the number of nets, keeps when nets are added, and nets that are added take the next slots.
use Rattle.std.specs.Prelude.{◌≡◌, ℕ, suc, ◌+◌, ◌<◌, Bool, true, false, cond, not, ◌||◌, List, [], ◌∷◌, ◌++◌, map, length, ◌==◌, refl}
use Rattle.std.proofs.Common.{add-zero, zero-add, suc-add, add-one, arith, sym, ap, ap₂, ◌∙◌, true≢false, eq-eqb, length-append}
use Rattle.std.proofs.lemmas.Bool.{not-true}
use Rattle.std.proofs.Math.Seq.{append_snoc}
use Rattle.meaning.specs.Boxlist.{member, disjoint, duplicates, subset}
use Rattle.meaning.specs.Adder.{up_from}
use Rattle.nets.specs.Slots.{slot_of}
use Rattle.nets.specs.Booleans.{or_left, or_right, and_left, and_right}
use Rattle.nets.specs.Members.{map-subset, disjoint_snoc}

pub slot-below : (x : ℕ) (xs : List ℕ) → member x xs ≡ true → slot_of x xs < length xs
unfolding member slot_of
slot-below x [] m = absurd (true≢false (sym m))
slot-below x (y ∷ xs) m = go (x == y) m (slot-below x xs)
  where
    go :
        (b : Bool) → (b || member x xs) ≡ true → (member x xs ≡ true → slot_of x xs < length xs)
        → cond b 0 (suc (slot_of x xs)) < suc (length xs)
    go true e rest = omega arith
    go false e rest = let h = rest e in omega arith

-- A net keeps its slot when nets are added.
pub slot-append : (x : ℕ) (xs ys : List ℕ) → member x xs ≡ true → slot_of x (xs ++ ys) ≡ slot_of x xs
unfolding member slot_of
slot-append x [] ys m = absurd (true≢false (sym m))
slot-append x (y ∷ xs) ys m = go (x == y) m (slot-append x xs ys)
  where
    go :
        (b : Bool) → (b || member x xs) ≡ true → (member x xs ≡ true → slot_of x (xs ++ ys) ≡ slot_of x xs)
        → cond b 0 (suc (slot_of x (xs ++ ys))) ≡ cond b 0 (suc (slot_of x xs))
    go true e rest = refl
    go false e rest = ap suc (rest e)

pub slots-append :
    (l xs ys : List ℕ) → subset l xs ≡ true → map (λ (x : ℕ). slot_of x (xs ++ ys)) l ≡ map (λ (x : ℕ). slot_of x xs) l
slots-append l xs ys s =
    map-subset (λ (x : ℕ). slot_of x (xs ++ ys)) (λ (x : ℕ). slot_of x xs) xs (λ x m. slot-append x xs ys m) l s

-- A net that stands only among those that are added has its slot behind the others.
pub slot-behind : (x : ℕ) (xs ys : List ℕ) → member x xs ≡ false → slot_of x (xs ++ ys) ≡ length xs + slot_of x ys
unfolding member slot_of
slot-behind x [] ys m = sym (zero-add (slot_of x ys))
slot-behind x (y ∷ xs) ys m =
    rw (or_left (x == y) (member x xs) m, suc-add (length xs) (slot_of x ys))
    (ap suc (slot-behind x xs ys (or_right (x == y) (member x xs) m)))

-- One that is added takes the next slot.
pub slot-fresh : (x : ℕ) (xs ys : List ℕ) → member x xs ≡ false → slot_of x (xs ++ (x ∷ ys)) ≡ length xs
unfolding slot_of
slot-fresh x xs ys m = slot-behind x xs (x ∷ ys) m ∙ rw (eq-eqb x x refl) (add-zero (length xs))

-- New nets, no two of them the same, take the next slots in order.
pub slots_appended :
    (nets list : List ℕ) → disjoint list nets ≡ true → duplicates list ≡ false
    → map (λ (x : ℕ). slot_of x (nets ++ list)) list ≡ up_from (length nets) (length list)
unfolding disjoint duplicates up_from
slots_appended nets [] d e = refl
slots_appended nets (x ∷ list) d e =
    ap₂ ◌∷◌
    (slot-fresh x nets list (not-true (member x nets) (and_left (not (member x nets)) (disjoint list nets) d)))
    (rest
    (slots_appended (nets ++ (x ∷ [])) list
    (disjoint_snoc list nets x
    ∙ rw (and_right (not (member x nets)) (disjoint list nets) d, or_left (member x list) (duplicates list) e))
    (or_right (member x list) (duplicates list) e)))
  where
    rest :
        map (λ (y : ℕ). slot_of y (nets ++ (x ∷ []) ++ list)) list ≡ up_from (length (nets ++ (x ∷ []))) (length list)
        → map (λ (y : ℕ). slot_of y (nets ++ (x ∷ list))) list ≡ up_from (suc (length nets)) (length list)
    rest p = simp (append_snoc nets x list, length-append nets (x ∷ []), add-one (length nets)) at p
