-- One more module in front of those that the table of numbers knows.
use Rattle.std.specs.Prelude.{ℕ, zero, suc, ◌+◌, ◌<◌, ◌≡◌, Bool, List, [], ◌∷◌, length, set}
use Rattle.std.proofs.Math.Path.{refl, sym, ap}
use Rattle.std.proofs.Common.{◌∙◌, true≢false, eqb-true}
use Rattle.std.proofs.Math.Bool.{true, false, cond}
use Rattle.std.proofs.lemmas.Bool.{false≢true, eqb-false}
use native.Mathlib.Omega.{arith}
use Rattle.std.proofs.Math.Dec.{eqb}
use Rattle.std.proofs.Math.ListN.{get_or}
use Rattle.std.proofs.Math.Seq.{get_or-set_same, get_or-set_other}
use Rattle.meaning.specs.Syntax.{Module}
use Rattle.meaning.specs.Boxlist.{assoc, is_box, box}
use Rattle.check_lists.specs.Numbering.{shifted, first_of, first_repeat}

shifted-shifted : (k place : ℕ) → shifted k (shifted 1 place) ≡ shifted (k + 1) place
shifted-shifted k zero = refl
shifted-shifted k (suc j) = omega arith

-- What the table says where the modules from position k on are in it.
unfoldable pub Tabled : List ℕ → ℕ → List Module → Type 0
Tabled first k ms = (x : ℕ) → get_or first x 0 ≡ shifted k (first_of x ms)

module _ (first : List ℕ) (k : ℕ) (m : Module) (later : List Module) where
  pub tabled-more : Tabled first (k + 1) later → m.number < length first → Tabled (set first m.number (k + 1)) k (m ∷ later)
  unfolding Tabled first_of
  tabled-more tabled inside x = go (eqb x m.number) refl
    where
      go : (b : Bool) → eqb x m.number ≡ b
          → get_or (set first m.number (k + 1)) x 0 ≡ shifted k (cond b 1 (shifted 1 (first_of x later)))
      go true e =
          ap (λ (i : ℕ). get_or (set first m.number (k + 1)) i 0) (eqb-true x m.number e)
          ∙ get_or-set_same first m.number (k + 1) 0 inside
          ∙ omega arith
      go false e =
          get_or-set_other first m.number x (k + 1) 0 (eqb-false x m.number e)
          ∙ tabled x
          ∙ sym (shifted-shifted k (first_of x later))

-- A number is in the table exactly when a module has it.
first_of-none : (x : ℕ) (ms : List Module) → is_box (assoc x ms) ≡ false → first_of x ms ≡ 0
unfolding first_of assoc
first_of-none x [] e = refl
first_of-none x (m ∷ ms) e = go (first_of-none x ms) (eqb x m.number) e
  where
    go : (is_box (assoc x ms) ≡ false → first_of x ms ≡ 0) → (b : Bool) → is_box (cond b (box m) (assoc x ms)) ≡ false
        → cond b 1 (shifted 1 (first_of x ms)) ≡ 0
    go ih true e' = absurd (true≢false e')
    go ih false e' = ap (shifted 1) (ih e')

pub first_of-some : (x : ℕ) (ms : List Module) → is_box (assoc x ms) ≡ true → 0 < first_of x ms
unfolding first_of assoc
first_of-some x [] e = absurd (false≢true e)
first_of-some x (m ∷ ms) e = go (first_of-some x ms) (eqb x m.number) e
  where
    more : (place : ℕ) → 0 < place → 0 < shifted 1 place
    more zero h = h
    more (suc j) h = omega arith

    go : (is_box (assoc x ms) ≡ true → 0 < first_of x ms) → (b : Bool) → is_box (cond b (box m) (assoc x ms)) ≡ true
        → 0 < cond b 1 (shifted 1 (first_of x ms))
    go ih true e' = omega arith
    go ih false e' = more (first_of x ms) (ih e')

module _ (first : List ℕ) (k : ℕ) (m : Module) (later : List Module) (tabled : Tabled first (k + 1) later) where
  shifted_none : (place : ℕ) → shifted (k + 1) place ≡ 0 → place ≡ 0
  shifted_none zero e = refl
  shifted_none (suc j) e = absurd (omega (arith, e))

  -- The module's number is in the table already: it stands on a later one.
  pub repeat_here : (get_or first m.number 0 ≡ 0 → ⊥) → k ≡ k + first_repeat (m ∷ later)
  unfolding first_repeat Tabled
  repeat_here there = go (is_box (assoc m.number later)) refl
    where
      go : (b : Bool) → is_box (assoc m.number later) ≡ b → k ≡ k + cond b 0 (suc (first_repeat later))
      go true e = omega arith
      go false e = absurd (there (tabled m.number ∙ ap (shifted (k + 1)) (first_of-none m.number later e)))

  pub repeat_later : (repeated : ℕ) → repeated ≡ k + 1 + first_repeat later → get_or first m.number 0 ≡ 0
      → repeated ≡ k + first_repeat (m ∷ later)
  unfolding first_repeat Tabled
  repeat_later repeated r gone = go (is_box (assoc m.number later)) refl
    where
      none : first_of m.number later ≡ 0
      none = shifted_none (first_of m.number later) (sym (tabled m.number) ∙ gone)

      go : (b : Bool) → is_box (assoc m.number later) ≡ b → repeated ≡ k + cond b 0 (suc (first_repeat later))
      go true e = absurd (omega (arith, first_of-some m.number later e, none))
      go false e = omega arith
