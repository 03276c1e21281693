-- A list of numbers laid over a longer one from a place on; pieces laid side by side are one piece.
use Rattle.std.specs.Prelude.{ℕ, ◌+◌, ◌≤◌, ◌<◌, ◌≡◌, List, [], ◌∷◌, ◌++◌, take, set}
use Rattle.std.proofs.Math.Path.{sym, ap}
use Rattle.std.proofs.Common.{ap₂, ◌∙◌, append_assoc, arith, add-zero, add-one, length-append, length-drop, take-append-drop, drop-drop, take-take, length-take-le}
use Rattle.std.proofs.Math.ListN.{length, drop}
use Rattle.std.proofs.Math.Seq.{drop-append_seam, take_at, drop_at}
use Rattle.std.proofs.lemmas.List.{set_split}
use Rattle.image.specs.Stands.{Stands}

unfoldable pub laid : {A : Type 0} → List A → ℕ → List A → List A
laid im at xs = take at im ++ (xs ++ drop (at + length xs) im)

module _ {A : Type 0} (im : List A) (at : ℕ) (xs : List A) (fits : at + length xs ≤ length im) where
  head-long : length (take at im) ≡ at
  head-long = length-take-le at im (omega arith)

  pub length-laid : length (laid im at xs) ≡ length im
  unfolding laid
  length-laid = simp (length-append, length-drop) (omega (arith, head-long))

  -- What was laid stands there.
  pub from-laid : drop at (laid im at xs) ≡ xs ++ drop (at + length xs) im
  unfolding laid
  from-laid = drop_at (take at im) (xs ++ drop (at + length xs) im) at head-long

  -- What stood before the place is as it was, and so is what stands after the piece.
  pub take-laid : take at (laid im at xs) ≡ take at im
  unfolding laid
  take-laid = take_at (take at im) (xs ++ drop (at + length xs) im) at head-long

  pub drop-laid : drop (at + length xs) (laid im at xs) ≡ drop (at + length xs) im
  unfolding laid
  drop-laid =
      sym (drop-drop (length xs) at (laid im at xs))
      ∙ ap (drop (length xs)) from-laid
      ∙ drop-append_seam xs (drop (at + length xs) im)

  -- Up to its end the list is what stood before it, and the piece.
  pub front-of-laid : take (at + length xs) (laid im at xs) ≡ take at im ++ xs
  unfolding laid
  front-of-laid =
      ap (take (at + length xs)) (sym (append_assoc (take at im) xs (drop (at + length xs) im)))
      ∙ take_at (take at im ++ xs) (drop (at + length xs) im) (at + length xs)
      (length-append (take at im) xs ∙ ap (λ (n : ℕ). n + length xs) head-long)

-- A piece laid behind another: both in one.
pub laid-after : {A : Type 0} (im : List A) (at : ℕ) (xs ys : List A) → at + (length xs + length ys) ≤ length im
    → laid (laid im at xs) (at + length xs) ys ≡ laid im at (xs ++ ys)
unfolding laid
laid-after {A} im at xs ys fits =
    ap₂ (λ (l r : List A). l ++ (ys ++ r)) (front-of-laid im at xs first) behind
    ∙ append_assoc (take at im) xs (ys ++ drop (at + length xs + length ys) im)
    ∙ ap (λ (l : List A). take at im ++ l) (sym (append_assoc xs ys (drop (at + length xs + length ys) im)))
    ∙ ap (λ (n : ℕ). take at im ++ ((xs ++ ys) ++ drop n im)) whole
  where
    whole : at + length xs + length ys ≡ at + length (xs ++ ys)
    whole = omega (arith, length-append xs ys)

    first : at + length xs ≤ length im
    first = omega arith

    behind : drop (at + length xs + length ys) (laid im at xs) ≡ drop (at + length xs + length ys) im
    behind =
        sym (drop-drop (length ys) (at + length xs) (laid im at xs))
        ∙ ap (drop (length ys)) (drop-laid im at xs first)
        ∙ drop-drop (length ys) (at + length xs) im

-- A piece laid in front of another: both in one.
pub laid-before : {A : Type 0} (im : List A) (at : ℕ) (xs ys : List A) → at + (length xs + length ys) ≤ length im
    → laid (laid im (at + length xs) ys) at xs ≡ laid im at (xs ++ ys)
unfolding laid
laid-before {A} im at xs ys fits =
    ap₂ (λ (l r : List A). l ++ (xs ++ r)) before behind
    ∙ ap (λ (l : List A). take at im ++ l) (sym (append_assoc xs ys (drop (at + length xs + length ys) im)))
    ∙ ap (λ (n : ℕ). take at im ++ ((xs ++ ys) ++ drop n im)) whole
  where
    whole : at + length xs + length ys ≡ at + length (xs ++ ys)
    whole = omega (arith, length-append xs ys)

    second : at + length xs + length ys ≤ length im
    second = omega arith

    before : take at (laid im (at + length xs) ys) ≡ take at im
    before =
        sym (take-take at (at + length xs) (laid im (at + length xs) ys) (omega arith))
        ∙ ap (take at) (take-laid im (at + length xs) ys second)
        ∙ take-take at (at + length xs) im (omega arith)

    behind : drop (at + length xs) (laid im (at + length xs) ys) ≡ ys ++ drop (at + length xs + length ys) im
    behind = from-laid im (at + length xs) ys second

-- One number stored.
pub set-laid : {A : Type 0} (im : List A) (at : ℕ) (x : A) → at < length im → set im at x ≡ laid im at (x ∷ [])
unfolding laid
set-laid im at x h = set_split im at x h ∙ ap (λ (n : ℕ). take at im ++ x ∷ drop n im) (sym (add-one at))

-- Nothing laid changes nothing.
pub laid-nothing : {A : Type 0} (im : List A) (at : ℕ) → laid im at [] ≡ im
unfolding laid
laid-nothing im at = ap (λ (n : ℕ). take at im ++ drop n im) (add-zero at) ∙ take-append-drop at im

-- Nor does what stands there already, alone or in front of or behind another piece.
pub laid-own : {im : List ℕ} {at : ℕ} {xs : List ℕ} → Stands im at xs → laid im at xs ≡ im
unfolding laid
laid-own {im} {at} {xs} s =
    ap (λ (l : List ℕ). take at im ++ l) (ap (λ (l : List ℕ). xs ++ l) behind ∙ sym s.here) ∙ take-append-drop at im
  where
    behind : drop (at + length xs) im ≡ s.rest
    behind = sym (drop-drop (length xs) at im) ∙ ap (drop (length xs)) s.here ∙ drop-append_seam xs s.rest

module _ {im : List ℕ} (at : ℕ) (xs ys : List ℕ) (fits : at + (length xs + length ys) ≤ length im) where
  pub laid-behind-own : Stands im at xs → laid im (at + length xs) ys ≡ laid im at (xs ++ ys)
  laid-behind-own s = ap (λ (l : List ℕ). laid l (at + length xs) ys) (sym (laid-own s)) ∙ laid-after im at xs ys fits

  pub laid-before-own : Stands im (at + length xs) ys → laid im at xs ≡ laid im at (xs ++ ys)
  laid-before-own s = ap (λ (l : List ℕ). laid l at xs) (sym (laid-own s)) ∙ laid-before im at xs ys fits
