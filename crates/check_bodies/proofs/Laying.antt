-- Numbers stored in an image side by side are one piece of it, and what stands elsewhere stands there still.
use Prim.Native.Nat.{ℕ, ◌+◌, ◌-◌, ◌≤◌, ◌<◌}
use mathlib.Core.Path.{◌≡◌, sym, ap, ◌∙◌}
use mathlib.Core.List.{List, [], ◌∷◌, ◌++◌}
use native.Mathlib.Omega.{arith}
use lib.ListN.{length, get_or, drop, set}
use lib.Seq.{drop-drop, get_or-take, set-get_or}
use Rattle.image.specs.Stands.{Stands, stands_alike}
use Rattle.image.specs.Laid.{laid, laid-after, laid-before, length-laid, take-laid, drop-laid, set-laid}

-- One number stored between two pieces makes one of them.
pub lay_between :
    (im : List ℕ) (at : ℕ) (xs : List ℕ) (p y : ℕ) (zs : List ℕ) → p ≡ at + length xs → p + 1 + length zs ≤ length im
    → set (laid (laid im at xs) (p + 1) zs) p y ≡ laid im at (xs ++ (y ∷ zs))
lay_between im at xs p y zs e fits =
    let first = length-laid im at xs (omega arith) in
    let second = length-laid (laid im at xs) (p + 1) zs (omega arith) in
    set-laid (laid (laid im at xs) (p + 1) zs) p y (omega arith)
    ∙ laid-before (laid im at xs) p (y ∷ []) zs (omega arith)
    ∙ ap (λ (q : ℕ). laid (laid im at xs) q (y ∷ zs)) e
    ∙ laid-after im at xs (y ∷ zs) (omega arith)

-- The same where the number between them is there already.
pub lay_around :
    (im : List ℕ) (at : ℕ) (xs : List ℕ) (p y : ℕ) (zs : List ℕ) → p ≡ at + length xs → p + 1 + length zs ≤ length im
    → get_or (laid (laid im at xs) (p + 1) zs) p 0 ≡ y
    → laid (laid im at xs) (p + 1) zs ≡ laid im at (xs ++ (y ∷ zs))
lay_around im at xs p y zs e fits there =
    let both : List ℕ = laid (laid im at xs) (p + 1) zs in
    sym (set-get_or both p 0) ∙ ap (set both p) there ∙ lay_between im at xs p y zs e fits

-- A number in front of a piece that is laid is as it was.
pub laid-keeps : (im : List ℕ) (at : ℕ) (xs : List ℕ) (p : ℕ) → p < at → at + length xs ≤ length im → get_or (laid im at xs) p 0 ≡ get_or im p 0
laid-keeps im at xs p h fits =
    sym (get_or-take at (laid im at xs) p 0 h)
    ∙ ap (λ (l : List ℕ). get_or l p 0) (take-laid im at xs fits)
    ∙ get_or-take at im p 0 h

-- What stands behind a piece that is laid stands there still.
pub stands-behind :
    {im : List ℕ} {p : ℕ} {ys : List ℕ} (at : ℕ) (xs : List ℕ) → at + length xs ≤ p → Stands im p ys → Stands (laid im at xs) p ys
stands-behind {im} {p} at xs h s = stands_alike same (length-laid im at xs fits) s
  where
    end : ℕ
    end = at + length xs

    there : end + (p - end) ≡ p
    there = omega arith

    fits : at + length xs ≤ length im
    fits = omega (arith, s.within)

    same : drop p (laid im at xs) ≡ drop p im
    same =
        ap (λ (q : ℕ). drop q (laid im at xs)) (sym there)
        ∙ sym (drop-drop (p - end) end (laid im at xs))
        ∙ ap (drop (p - end)) (drop-laid im at xs fits)
        ∙ drop-drop (p - end) end im
        ∙ ap (λ (q : ℕ). drop q im) there
