-- Entries of a list from a position on, each behind what parts it from the one before.
use Rattle.std.specs.Prelude.{ℕ, zero, suc, ◌≡◌}
use Rattle.std.proofs.Math.Path.{refl, ap}
use mathlib.Core.List.{List, [], ◌∷◌, ◌++◌}
use Rattle.meaning.specs.Layout.{each}
use Rattle.meaning.specs.ListPrint.{parted}

-- What stands in front of the entry at a position: nothing in front of the first.
abbrev pub leading : (between : List ℕ) (position : ℕ) → List ℕ
leading between zero = []
leading between (suc p) = between

unfoldable pub onward : {A : Type 0} → (between : List ℕ) → (A → List ℕ) → (position : ℕ) → List A → List ℕ
onward between text position [] = []
onward between text position (x ∷ xs) = (leading between position ++ text x) ++ onward between text (suc position) xs

module _ {A : Type 0} (between : List ℕ) (text : A → List ℕ) where
  later : (p : ℕ) (xs : List A) → each (λ y. between ++ text y) xs ≡ onward between text (suc p) xs
  unfolding each onward
  later p [] = refl
  later p (x ∷ xs) = ap (λ l. (between ++ text x) ++ l) (later (suc p) xs)

  pub parted-onward : (xs : List A) → parted between text xs ≡ onward between text 0 xs
  unfolding parted onward
  parted-onward [] = refl
  parted-onward (x ∷ xs) = ap (λ l. text x ++ l) (later 0 xs)
