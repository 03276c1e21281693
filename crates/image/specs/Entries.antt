-- Entries and parts of lists.
use Rattle.std.specs.Prelude.{ℕ, zero, suc, ◌+◌, ◌-◌, ◌≤◌, ◌<◌, ◌≡◌, refl, Bool, true, false, cond, List, map, eqb, length, get_or, take, drop, set, replicate}
use Rattle.std.proofs.Common.{sym, ap, ◌∙◌, arith, eqb-true, get_or-set_same, get_or-set_other, get_or-take, drop-drop}
use Rattle.std.proofs.lemmas.Bool.{eqb-false}
use Rattle.meaning.specs.Adder.{up_from}

-- One entry made larger.
pub entry_more :
    (l : List ℕ) (at more i : ℕ) → at < length l → get_or (set l at (get_or l at 0 + more)) i 0 ≡ get_or l i 0 + cond (eqb i at) more 0
entry_more l at more i inside = go (eqb i at) refl
  where
    go : (b : Bool) → eqb i at ≡ b → get_or (set l at (get_or l at 0 + more)) i 0 ≡ get_or l i 0 + cond b more 0
    go true e = rw (eqb-true i at e) (get_or-set_same l at (get_or l at 0 + more) 0 inside)
    go false e = get_or-set_other l at i (get_or l at 0 + more) 0 (eqb-false i at e) ∙ omega arith

-- The numbers from one on, and what a function makes of them.
pub run_at : (first count i : ℕ) → i < count → get_or (up_from first count) i 0 ≡ first + i
unfolding up_from
run_at first zero i h = absurd (omega arith)
run_at first (suc n) zero h = omega arith
run_at first (suc n) (suc i) h = run_at (suc first) n i (omega arith) ∙ omega arith

pub mapped : (f : ℕ → ℕ) (first count i : ℕ) → i < count → get_or (map f (up_from first count)) i 0 ≡ f (first + i)
unfolding up_from
mapped f first zero i less = absurd (omega arith)
mapped f first (suc n) zero less = ap f (omega arith)
mapped f first (suc n) (suc i) less =
    let further : suc first + i ≡ first + suc i = omega arith in
    mapped f (suc first) n i (omega arith) ∙ ap f further

-- A list of one value has it everywhere, also where it stands for what is not there.
pub all_alike : {A : Type 0} (count i : ℕ) (a : A) → get_or (replicate count a) i a ≡ a
all_alike zero i a = refl
all_alike (suc n) zero a = refl
all_alike (suc n) (suc i) a = all_alike n i a

-- Lists that agree in front, or from a place on.
pub same-entry : (xs ys : List ℕ) (n i : ℕ) → i < n → take n xs ≡ take n ys → get_or xs i 0 ≡ get_or ys i 0
same-entry xs ys n i less e =
    sym (get_or-take n xs i 0 less) ∙ ap (λ (l : List ℕ). get_or l i 0) e ∙ get_or-take n ys i 0 less

module _ {A : Type 0} (xs ys : List A) (a b : ℕ) (h : a ≤ b) where
  pub same-behind : drop (b - a) (drop a xs) ≡ drop (b - a) (drop a ys) → drop b xs ≡ drop b ys
  same-behind e =
      let on : a + (b - a) ≡ b = omega arith in
      ap (λ (n : ℕ). drop n xs) (sym on)
      ∙ sym (drop-drop (b - a) a xs)
      ∙ e
      ∙ drop-drop (b - a) a ys
      ∙ ap (λ (n : ℕ). drop n ys) on

  pub same-further : drop a xs ≡ drop a ys → drop b xs ≡ drop b ys
  same-further e = same-behind (ap (drop (b - a)) e)
