-- Where a list of numbers stands inside a longer one, and how to read it there piece by piece.
use Rattle.std.specs.Prelude.{ℕ, ◌+◌, ◌≤◌, ◌≡◌, List, [], ◌∷◌, ◌++◌, length, get_or, take, drop}
use Rattle.std.proofs.Common.{sym, ap, ◌∙◌, append_assoc, append-nil, arith, length-append, drop-drop, get_or-drop}
use Rattle.std.proofs.Math.Seq.{drop-append_seam, take-append_seam}

pub record Stands (im : List ℕ) (at : ℕ) (xs : List ℕ) : Type 0 where
  pub rest : List ℕ
  pub here : drop at im ≡ xs ++ rest
  pub within : at + length xs ≤ length im

module _ {im : List ℕ} {at : ℕ} where
  -- The first number.
  pub stands-head : {x : ℕ} {xs : List ℕ} → Stands im at (x ∷ xs) → get_or im at 0 ≡ x
  stands-head {x} {xs} s = sym (get_or-drop at im 0 0 ∙ ap (λ (i : ℕ). get_or im i 0) (omega arith)) ∙ ap (λ (l : List ℕ). get_or l 0 0) s.here

  -- What stands after the first piece.
  pub stands-skip : (xs : List ℕ) {ys : List ℕ} → Stands im at (xs ++ ys) → Stands im (at + length xs) ys
  stands-skip xs {ys} s =
      record {
        rest = s.rest;
        here =
            sym (drop-drop (length xs) at im)
            ∙ ap (drop (length xs)) (s.here ∙ append_assoc xs ys s.rest)
            ∙ drop-append_seam xs (ys ++ s.rest);
        within = omega (arith, s.within, length-append xs ys);
      }

  -- The first piece alone.
  pub stands-front : {xs : List ℕ} (ys : List ℕ) → Stands im at (xs ++ ys) → Stands im at xs
  stands-front {xs} ys s =
      record { rest = ys ++ s.rest; here = s.here ∙ append_assoc xs ys s.rest; within = omega (arith, s.within, length-append xs ys) }

  -- All but the first number.
  pub stands-tail : {x : ℕ} {xs : List ℕ} → Stands im at (x ∷ xs) → Stands im (at + 1) xs
  stands-tail {x} s = stands-skip (x ∷ []) s

  -- It stands in every list of the same length that is the same from the place on.
  pub stands_alike : {im' : List ℕ} {xs : List ℕ} → drop at im' ≡ drop at im → length im' ≡ length im → Stands im at xs → Stands im' at xs
  stands_alike same long s = record { rest = s.rest; here = same ∙ s.here; within = omega (arith, s.within) }

  -- The piece as a part of the whole.
  pub stands-part : {xs : List ℕ} → Stands im at xs → take (length xs) (drop at im) ≡ xs
  stands-part {xs} s = ap (take (length xs)) s.here ∙ take-append_seam xs s.rest

-- A list stands at its own front.
pub stands-whole : {im xs : List ℕ} → im ≡ xs → Stands im 0 xs
stands-whole {im} {xs} e = record { rest = []; here = e ∙ sym (append-nil xs); within = omega (arith, ap length e) }
