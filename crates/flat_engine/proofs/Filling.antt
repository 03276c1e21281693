-- A loop that stores values one after the other from a place on: after i turns the first i of them are laid there.
use Prim.Native.Nat.{ℕ, ◌+◌, ◌≤◌, ◌<◌}
use mathlib.Core.Path.{◌≡◌, sym, ap, ◌∙◌}
use mathlib.Core.List.{List, [], ◌∷◌, ◌++◌}
use native.Mathlib.Omega.{arith}
use native.Mathlib.Numerals.{add-one}
use lib.ListN.{length, get_or, take, set}
use lib.Seq.{length-take-le, take-suc, take_all}
use Rattle.image.specs.Laid.{laid, length-laid, laid-after, laid-nothing, set-laid}

pub record Filling (before : List ℕ) (at : ℕ) (values : List ℕ) (i : ℕ) (after : List ℕ) : Type 0 where
  pub room : at + length values ≤ length before
  pub within : i ≤ length values
  pub is : after ≡ laid before at (take i values)

pub filling-none :
    (before : List ℕ) (at : ℕ) (values : List ℕ) → at + length values ≤ length before → Filling before at values 0 before
filling-none before at values room = record { room = room; within = omega arith; is = sym (laid-nothing before at) }

module _ {before : List ℕ} {at : ℕ} {values : List ℕ} {i : ℕ} {after : List ℕ} (f : Filling before at values i after) where
  pub filling-length : length after ≡ length before
  filling-length =
      ap length f.is
      ∙ length-laid before at (take i values) (omega (arith, f.room, f.within, length-take-le i values f.within))

  pub filling-more :
      {v p : ℕ} → i < length values → p ≡ at + i → v ≡ get_or values i 0 → Filling before at values (i + 1) (set after p v)
  filling-more {v} {p} h place e =
      record {
        room = f.room;
        within = omega arith;
        is =
            set-laid after p v (omega (arith, f.room, filling-length))
            ∙ rw (f.is, there)
            (laid-after before at (take i values) (v ∷ []) (omega (arith, f.room, long))
            ∙ ap (laid before at) (ap (λ (x : ℕ). take i values ++ (x ∷ [])) e ∙ sym next));
      }
    where
      long : length (take i values) ≡ i
      long = length-take-le i values f.within

      there : p ≡ at + length (take i values)
      there = omega (arith, long)

      next : take (i + 1) values ≡ take i values ++ (get_or values i 0 ∷ [])
      next = rw (add-one i, take-suc values i 0 h)

  pub filling-all : length values ≤ i → after ≡ laid before at values
  filling-all h = f.is ∙ ap (laid before at) (take_all i values h)
