-- The table of marks, net by net.
use Prim.Native.Nat.{ℕ, suc, ◌+◌, ◌≤◌, ◌<◌}
use native.Mathlib.Omega.{arith}
use native.Mathlib.Numerals.{add-one}
use mathlib.Core.Path.{◌≡◌, refl, sym, ◌∙◌, ap}
use mathlib.Core.Bool.{Bool, true, false, ◌||◌}
use mathlib.Core.List.{List, ◌∷◌, ◌++◌}
use lib.Dec.{eqb}
use lib.ListN.{length, get_or, drop, set, drop_of_length-le}
use lib.Seq.{drop-cons, get_or-set_same, get_or-set_other}
use borrow.Author.Tests.{eqb-true, eqb-false}
use Rattle.meaning.specs.Boxlist.{member}
use Rattle.nets.specs.Members.{member-append}
use Rattle.fault_parts.specs.Fronts.{new_front, known_front}
use Rattle.fault_parts.specs.Asked.{mark, Marked}

-- What one more mark makes known.
pub marked-one : (marks known : List ℕ) (x : ℕ) → x < length marks → Marked marks known → Marked (set marks x 1) (x ∷ known)
unfolding member
marked-one marks known x l m = record { is = λ y. go y (eqb y x) refl }
  where
    go : (y : ℕ) (t : Bool) → eqb y x ≡ t → get_or (set marks x 1) y 0 ≡ mark (t || member y known)
    go y true e = rw (eqb-true y x e, get_or-set_same marks x 1 0 l)
    go y false e = rw (get_or-set_other marks x y 1 0 (eqb-false y x e)) (m.is y)

pub marked-like : (marks one other : List ℕ) → ((x : ℕ) → member x one ≡ member x other) → Marked marks one → Marked marks other
marked-like marks one other same m = record { is = λ x. m.is x ∙ ap mark (same x) }

module _ {marks known : List ℕ} (m : Marked marks known) (x : ℕ) where
  pub is_known : get_or marks x 0 ≡ 1 → member x known ≡ true
  is_known e = go (member x known) (m.is x)
    where
      go : (t : Bool) → get_or marks x 0 ≡ mark t → t ≡ true
      go true h = refl
      go false h = absurd (omega arith)

  pub not_known : (get_or marks x 0 ≡ 1 → ⊥) → member x known ≡ false
  not_known n = go (member x known) (m.is x)
    where
      go : (t : Bool) → get_or marks x 0 ≡ mark t → t ≡ false
      go true h = absurd (n h)
      go false h = refl

-- A net may stand in front of others or behind them.
moved : (y x : ℕ) (xs ys : List ℕ) → member y (xs ++ (x ∷ ys)) ≡ member y ((x ∷ xs) ++ ys)
unfolding member
moved y x xs ys = member-append y xs (x ∷ ys) ∙ go (eqb y x) (member y xs) ∙ ap (λ b. eqb y x || b) (sym (member-append y xs ys))
  where
    go : (a b : Bool) → (b || (a || member y ys)) ≡ (a || (b || member y ys))
    go true true = refl
    go true false = refl
    go false true = refl
    go false false = refl

-- Some nets of a list are marked, those ahead are not yet.
pub record Going (list known marks : List ℕ) (i : ℕ) : Type 0 where
  pub few : i ≤ length list
  pub seen : List ℕ
  pub marked : Marked marks seen
  pub same : (x : ℕ) → member x (drop i list ++ seen) ≡ member x (list ++ known)

module _ (list known marks : List ℕ) where
  pub going-first : Marked marks known → Going list known marks 0
  going-first m = record { few = omega arith; seen = known; marked = m; same = λ x. refl }

  pub going_on : (i : ℕ) → i < length list → get_or list i 0 < length marks → (g : Going list known marks i)
      → Going list known (set marks (get_or list i 0) 1) (i + 1)
  going_on i l h g =
      let front : drop i list ≡ get_or list i 0 ∷ drop (i + 1) list =
      drop-cons list i 0 l ∙ ap (λ n. get_or list i 0 ∷ drop n list) (sym (add-one i)) in
      record {
        few = omega arith;
        seen = get_or list i 0 ∷ g.seen;
        marked = marked-one marks g.seen (get_or list i 0) h g.marked;
        same = λ x.
            moved x (get_or list i 0) (drop (i + 1) list) g.seen ∙ ap (λ ahead. member x (ahead ++ g.seen)) (sym front) ∙ g.same x;
      }

  pub going-last : (i : ℕ) → length list ≤ i → Going list known marks i → Marked marks (list ++ known)
  going-last i l g =
      marked-like marks g.seen (list ++ known)
      (λ x. ap (λ ahead. member x (ahead ++ g.seen)) (sym (drop_of_length-le list l)) ∙ g.same x)
      g.marked

-- All that were passed are new.
pub record Learning (list known marks : List ℕ) (i : ℕ) : Type 0 where
  pub going : Going list known marks i
  pub is : new_front list known ≡ i + new_front (drop i list) going.seen

module _ (list known marks : List ℕ) where
  pub learning-first : Marked marks known → Learning list known marks 0
  unfolding going-first
  learning-first m =
      let all : new_front (drop 0 list) (going-first list known marks m).seen ≡ new_front list known = refl in
      record { going = going-first list known marks m; is = omega arith }

  module _ (i : ℕ) (l : i < length list) (g : Learning list known marks i) where
    pub learning-on : get_or list i 0 < length marks → (get_or marks (get_or list i 0) 0 ≡ 1 → ⊥) → Learning list known (set marks (get_or list i 0) 1) (i + 1)
    unfolding new_front going_on
    learning-on h n =
        let new : member (get_or list i 0) g.going.seen ≡ false = not_known g.going.marked (get_or list i 0) n in
        let one : new_front (drop i list) g.going.seen ≡ suc (new_front (drop (i + 1) list) (get_or list i 0 ∷ g.going.seen)) =
        rw (add-one i, drop-cons list i 0 l, new) in
        record { going = going_on list known marks i l h g.going; is = g.is ∙ omega arith }

    pub learning-stops : get_or marks (get_or list i 0) 0 ≡ 1 → i ≡ new_front list known
    unfolding new_front
    learning-stops e =
        let old : member (get_or list i 0) g.going.seen ≡ true = is_known g.going.marked (get_or list i 0) e in
        let none : new_front (drop i list) g.going.seen ≡ 0 = rw (drop-cons list i 0 l, old) in
        omega (arith, g.is)

  pub learning-last : (i : ℕ) → length list ≤ i → Learning list known marks i → i ≡ new_front list known
  unfolding new_front
  learning-last i l g =
      let none : new_front (drop i list) g.going.seen ≡ 0 = rw (drop_of_length-le list l) in
      omega (arith, g.is)

-- How many are known.
module _ (list known marks : List ℕ) (m : Marked marks known) (i : ℕ) (so : known_front list known ≡ i + known_front (drop i list) known) where
  pub known_on : i < length list → get_or marks (get_or list i 0) 0 ≡ 1 → known_front list known ≡ i + 1 + known_front (drop (i + 1) list) known
  unfolding known_front
  known_on l e =
      let old : member (get_or list i 0) known ≡ true = is_known m (get_or list i 0) e in
      let one : known_front (drop i list) known ≡ suc (known_front (drop (i + 1) list) known) = rw (add-one i, drop-cons list i 0 l, old) in
      omega arith

  pub known-stops : i < length list → (get_or marks (get_or list i 0) 0 ≡ 1 → ⊥) → i ≡ known_front list known
  unfolding known_front
  known-stops l n =
      let new : member (get_or list i 0) known ≡ false = not_known m (get_or list i 0) n in
      let none : known_front (drop i list) known ≡ 0 = rw (drop-cons list i 0 l, new) in
      omega arith

  pub known-last : length list ≤ i → i ≡ known_front list known
  unfolding known_front
  known-last l = let none : known_front (drop i list) known ≡ 0 = rw (drop_of_length-le list l) in omega arith
