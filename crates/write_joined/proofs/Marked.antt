-- One number more is marked; and what a mark says of a module.
use Prim.Native.Nat.{ℕ, ◌<◌}
use mathlib.Core.Path.{◌≡◌, refl, sym, ap, ◌∙◌}
use mathlib.Core.Bool.{Bool, true, false, cond}
use mathlib.Core.List.{List, [], ◌∷◌}
use native.Mathlib.Omega.{arith}
use borrow.Author.Tests.{eqb-true, eqb-false}
use lib.Dec.{eqb}
use lib.ListN.{length, get_or, set}
use lib.Seq.{get_or-set_same, get_or-set_other}
use Rattle.meaning.specs.Syntax.{Module}
use Rattle.meaning.specs.Boxlist.{Found, box, F, assoc, is_box}
use Rattle.meaning.specs.Shelves.{lacking}
use Rattle.write_joined.specs.Marks.{mark_of, Marks}

pub marks-none : {marks : List ℕ} → ((x : ℕ) → get_or marks x 0 ≡ 0) → Marks marks []
unfolding assoc
marks-none clear = record { mark = clear }

pub marks-more : {marks : List ℕ} {later : List Module} (m : Module) {x : ℕ} → Marks marks later → x ≡ m.number → x < length marks → Marks (set marks x 1) (m ∷ later)
unfolding assoc
marks-more {marks} {later} m {x} marked is inside = record { mark = λ y. at y (eqb y m.number) refl }
  where
    at : (y : ℕ) (b : Bool) → eqb y m.number ≡ b → get_or (set marks x 1) y 0 ≡ mark_of (cond b (box m) (assoc y later))
    at y true e =
        let same : y ≡ x = eqb-true y m.number e ∙ sym is in
        ap (λ (i : ℕ). get_or (set marks x 1) i 0) same ∙ get_or-set_same marks x 1 0 inside
    at y false e = get_or-set_other marks x y 1 0 (λ same. eqb-false y m.number e (same ∙ is)) ∙ marked.mark y

module _ {marks : List ℕ} {own : List Module} (m : Module) {x : ℕ} (marked : Marks marks own) (is : x ≡ m.number) where
  told : get_or marks x 0 ≡ mark_of (assoc m.number own)
  told = marked.mark x ∙ ap (λ (i : ℕ). mark_of (assoc i own)) is

  -- A number that is marked is the group's, one that is not it lacks.
  pub marked-lacks : (get_or marks x 0 ≡ 0 → ⊥) → lacking own (m ∷ []) ≡ []
  unfolding lacking
  marked-lacks some = go (assoc m.number own) refl
    where
      go : (f : Found) → assoc m.number own ≡ f → cond (is_box f) [] (m ∷ []) ≡ []
      go (box k) e = refl
      go F e = absurd (some (told ∙ ap mark_of e))

  pub unmarked-lacks : get_or marks x 0 ≡ 0 → lacking own (m ∷ []) ≡ m ∷ []
  unfolding lacking
  unmarked-lacks none = go (assoc m.number own) refl
    where
      go : (f : Found) → assoc m.number own ≡ f → cond (is_box f) [] (m ∷ []) ≡ m ∷ []
      go (box k) e = absurd (let z : ◌≡◌ {A = ℕ} 0 1 = sym none ∙ told ∙ ap mark_of e in omega arith)
      go F e = refl
