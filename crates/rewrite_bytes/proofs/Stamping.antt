-- A stamp set at one net more.
use Prim.Native.Nat.{ℕ, ◌+◌, ◌<◌}
use mathlib.Core.Path.{◌≡◌, refl, sym, ◌∙◌}
use mathlib.Core.Bool.{Bool, true, false, ◌||◌, or_assoc, or-false, true≢false}
use mathlib.Core.List.{List, [], ◌∷◌}
use native.Mathlib.Numerals.{add-one}
use borrow.Author.Tests.{eqb-true, eqb-false}
use lib.Dec.{eqb}
use lib.ListN.{length, get_or, set, take}
use lib.Seq.{get_or-set_same, get_or-set_other, take-suc}
use Rattle.meaning.specs.Boxlist.{member}
use Rattle.laws.specs.Adder.Distinct.{member-append}
use Rattle.rewrite_bytes.specs.Used.{Stamped}

-- The same nets, said another way.
pub stamped-same : {table : List ℕ} {stamp : ℕ} (t t' : ℕ → Bool) → ((x : ℕ) → t' x ≡ t x) → Stamped table stamp t → Stamped table stamp t'
stamped-same t t' same s =
    record { inside = λ x e. s.inside x (sym (same x) ∙ e); outside = λ x e. s.outside x (sym (same x) ∙ e) }

pub stamped-set :
    {table : List ℕ} {stamp : ℕ} (t t' : ℕ → Bool) (n : ℕ)
    → ((x : ℕ) → t' x ≡ (t x || eqb x n))
    → n < length table
    → Stamped table stamp t
    → Stamped (set table n stamp) stamp t'
stamped-set {table} {stamp} t t' n is inside s =
    record { inside = λ x e. go_in x (eqb x n) refl (sym (is x) ∙ e); outside = λ x e. go-out x (eqb x n) refl (sym (is x) ∙ e) }
  where
    other : (x : ℕ) → eqb x n ≡ false → get_or (set table n stamp) x 0 ≡ get_or table x 0
    other x e = get_or-set_other table n x stamp 0 (λ same. eqb-false x n e same)

    go_in : (x : ℕ) (b : Bool) → eqb x n ≡ b → (t x || b) ≡ true → get_or (set table n stamp) x 0 ≡ stamp
    go_in x true same e = let equal = eqb-true x n same in rw equal (get_or-set_same table n stamp 0 inside)
    go_in x false same e = other x same ∙ s.inside x (sym (or-false (t x)) ∙ e)

    or-true : (b : Bool) → (b || true) ≡ true
    or-true true = refl
    or-true false = refl

    go-out : (x : ℕ) (b : Bool) → eqb x n ≡ b → (t x || b) ≡ false → get_or (set table n stamp) x 0 < stamp
    go-out x true same e = absurd (true≢false (sym (or-true (t x)) ∙ e))
    go-out x false same e = rw (other x same) (s.outside x (sym (or-false (t x)) ∙ e))

-- One net of a list more.
pub marked_more :
    {table : List ℕ} {stamp : ℕ} (list : List ℕ) (i : ℕ) (used : ℕ → Bool)
    → i < length list
    → get_or list i 0 < length table
    → Stamped table stamp (λ x. used x || member x (take i list))
    → Stamped (set table (get_or list i 0) stamp) stamp (λ x. used x || member x (take (i + 1) list))
unfolding member
marked_more list i used more inside s =
    stamped-set (λ x. used x || member x (take i list)) (λ x. used x || member x (take (i + 1) list)) (get_or list i 0) same inside s
  where
    same : (x : ℕ) → (used x || member x (take (i + 1) list)) ≡ ((used x || member x (take i list)) || eqb x (get_or list i 0))
    same x =
        rw (add-one i, take-suc list i 0, member-append x (take i list) (get_or list i 0 ∷ []), or-false (eqb x (get_or list i 0)))
        (sym (or_assoc (used x) (member x (take i list)) (eqb x (get_or list i 0))))
