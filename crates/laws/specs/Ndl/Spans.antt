-- The longest front of bytes that a test holds of: two texts that begin with such fronts, and go on with a byte that the test does not
-- hold of, are equal only front by front.
use Rattle.std.specs.Prelude.{ℕ, ◌≡◌, refl, Bool, true, false, ◌&&◌}
use Rattle.std.proofs.Math.Path.{ap}
use Rattle.std.proofs.Common.{sym, ◌∙◌, true≢false}
use Rattle.std.proofs.Math.Bool.{false≢true}
use mathlib.Core.List.{List, [], ◌∷◌, ◌++◌}
use Rattle.meaning.specs.Ndl.{every}

pub both : (a b : Bool) → a && b ≡ true → (a ≡ true) × (b ≡ true)
both true b e = (refl, e)
both false b e = absurd (false≢true e)

module _ (p : ℕ → Bool) where
  pub every_append : (xs ys : List ℕ) → every p xs ≡ true → every p ys ≡ true → every p (xs ++ ys) ≡ true
  unfolding every
  every_append [] ys e f = f
  every_append (x ∷ xs) ys e f =
      let b = both (p x) (every p xs) e in
      rw b.0 (every_append xs ys b.1 f)

  -- What goes on behind a front.
  pub data Stops : List ℕ → Type 0 where
    stops : {c : ℕ} (rest : List ℕ) → p c ≡ false → Stops (c ∷ rest)

  -- A front that is empty ends at once, one that is not does not.
  begins : {c x : ℕ} {rest ys : List ℕ} (xs : List ℕ) → p c ≡ false → every p (x ∷ xs) ≡ true → c ∷ rest ≡ x ∷ ys → ⊥
  unfolding every
  begins {c} {x} xs f e same =
      let head : c ≡ x = cc in
      false≢true (sym f ∙ ap p head ∙ (both (p x) (every p xs) e).0)

  pub span_cut :
      (xs ys : List ℕ) {r s : List ℕ} → every p xs ≡ true → every p ys ≡ true → Stops r → Stops s → xs ++ r ≡ ys ++ s
      → (xs ≡ ys) × (r ≡ s)
  unfolding every
  span_cut [] [] e f there also same = (refl, same)
  span_cut [] (y ∷ ys) e f (stops rest h) also same = absurd (begins ys h f same)
  span_cut (x ∷ xs) [] e f there (stops rest h) same = absurd (begins xs h e (sym same))
  span_cut (x ∷ xs) (y ∷ ys) {r} {s} e f there also same =
      let head : x ≡ y = cc in
      let behind : xs ++ r ≡ ys ++ s = cc in
      let on = span_cut xs ys (both (p x) (every p xs) e).1 (both (p y) (every p ys) f).1 there also behind in
      let tails : xs ≡ ys = on.0 in
      (cc, on.1)

-- A front that both have goes off.
pub cut_word : (word : List ℕ) {r s : List ℕ} → word ++ r ≡ word ++ s → r ≡ s
cut_word [] e = e
cut_word (b ∷ word) {r} {s} e =
    let behind : word ++ r ≡ word ++ s = cc in
    cut_word word behind
