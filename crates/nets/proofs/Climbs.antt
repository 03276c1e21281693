-- Entries that ascend: those before a place are in no pair, and none of them is above the last.
use Rattle.std.proofs.Common.{◌≡◌, ℕ, ◌+◌, ◌-◌, ◌<◌, ◌≤◌, Bool, true, false, ◌||◌, eqb, List, [], ◌∷◌, length, get_or, take, sym, refl, ◌∙◌, true≢false, arith, eqb-true}
use mathlib.Core.Bool.{or-false}
use Rattle.meaning.specs.Boxlist.{member, duplicates}
use Rattle.nets.specs.Members.{member-append, duplicates_snoc}
use Rattle.nets.specs.Walks.{up_to-here}

pub record Climbed (list : List ℕ) (i : ℕ) : Type 0 where
  pub some : 0 < i
  pub single : duplicates (take i list) ≡ false
  pub top : (x : ℕ) → member x (take i list) ≡ true → x ≤ get_or list (i - 1) 0

-- One entry is in no pair.
pub first : (list : List ℕ) → Climbed list 1
unfolding duplicates member
first [] = record { some = omega arith; single = refl; top = λ x m. absurd (true≢false (sym m)) }
first (y ∷ ys) =
    record { some = omega arith; single = refl; top = λ x m. omega (arith, eqb-true x y (sym (or-false (eqb x y)) ∙ m)) }

-- An entry that is above the one before it is none of those before.
pub higher : {list : List ℕ} {i : ℕ} → Climbed list i → i < length list → get_or list (i - 1) 0 < get_or list i 0 → Climbed list (i + 1)
unfolding member
higher {list} {i} c here above =
    let back : i + 1 - 1 ≡ i = omega arith in
    record {
      some = omega arith;
      single = rw (up_to-here list i here, duplicates_snoc (take i list) y, new (member y (take i list)) refl) c.single;
      top = λ x m.
          rw back (below x (member x (take i list)) refl (rw (up_to-here list i here, member-append x (take i list) (y ∷ [])) at m));
    }
  where
    y : ℕ
    y = get_or list i 0

    new : (b : Bool) → member y (take i list) ≡ b → b ≡ false
    new true e = absurd (omega (arith, c.top y e))
    new false e = refl

    below : (x : ℕ) (b : Bool) → member x (take i list) ≡ b → (b || (eqb x y || false)) ≡ true → x ≤ y
    below x true e m = omega (arith, c.top x e)
    below x false e m = omega (arith, eqb-true x y (sym (or-false (eqb x y)) ∙ m))
