-- A buffer whose front is overwritten from the first entry on: after i stores the first i entries are those of a list, and the rest is as
-- it was.
use Prim.Native.Nat.{ℕ, suc, ◌+◌, ◌≤◌, ◌<◌}
use mathlib.Core.Path.{◌≡◌, refl, sym, ap, ◌∙◌}
use mathlib.Core.List.{List, [], ◌∷◌, ◌++◌}
use native.Mathlib.Omega.{arith}
use native.Mathlib.Numerals.{add-one}
use lib.ListN.{length, get_or, take, drop, set, length-set}
use lib.Seq.{take-suc, take_all, drop-cons, set_at, append_snoc, length-take-le}

pub record Front (xs before after : List ℕ) (i : ℕ) : Type 0 where
  pub within : i ≤ length xs
  pub size : length after ≡ length before
  pub holds : after ≡ take i xs ++ drop i before

pub front-none : (xs before : List ℕ) → Front xs before before 0
front-none xs before = record { within = omega arith; size = refl; holds = refl }

module _ {xs before after : List ℕ} {i : ℕ} (f : Front xs before after i) where
  pub front-more :
      {v : ℕ} → i < length xs → i < length before → v ≡ get_or xs i 0 → Front xs before (set after i v) (i + 1)
  front-more {v} inside room e =
      record {
        within = omega arith;
        size = length-set after i v ∙ f.size;
        holds =
            ap (λ (l : List ℕ). set l i v) (f.holds ∙ ap (λ (l : List ℕ). take i xs ++ l) (drop-cons before i 0 room))
            ∙ set_at (take i xs) (get_or before i 0) (drop (suc i) before) v i (length-take-le i xs (omega arith))
            ∙ sym (append_snoc (take i xs) v (drop (suc i) before))
            ∙ ap (λ (x : ℕ). (take i xs ++ (x ∷ [])) ++ drop (suc i) before) e
            ∙ sym (ap (λ (l : List ℕ). l ++ drop (suc i) before) (take-suc xs i 0 inside))
            ∙ ap (λ (n : ℕ). take n xs ++ drop n before) (sym (add-one i));
      }

  pub front-all : length xs ≤ i → after ≡ xs ++ drop (length xs) before
  front-all h =
      let end : i ≡ length xs = omega arith in
      f.holds
      ∙ ap (λ (n : ℕ). take n xs ++ drop n before) end
      ∙ ap (λ (l : List ℕ). l ++ drop (length xs) before) (take_all (length xs) xs (omega arith))
