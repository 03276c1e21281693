-- One run follows another entry by entry: each value of the one is what a function makes of the other's. Then so are the outputs.
use Rattle.std.specs.Prelude.{ℕ, ◌≡◌, refl}
use Rattle.std.proofs.Common.{ap₂}
use mathlib.Core.List.Forall₂.{cons as more}
use mathlib.Core.List.Forall₂.{nil as none}
use mathlib.Core.List.{List, [], ◌∷◌, map, Forall₂}
use Rattle.meaning.specs.Syntax.{Module}
use Rattle.meaning.specs.Evaluation.{Meaning, run}
use Rattle.laws.specs.Related.{Respects, run-related}

module _ {A B : Type 0} (f : B → A) where
  abbrev pub Mapped : A → B → Type 0
  Mapped x y = x ≡ f y

  pub mapped-is : {xs : List A} {ys : List B} → Forall₂ Mapped xs ys → xs ≡ map f ys
  mapped-is none = refl
  mapped-is (more e rest) = ap₂ ◌∷◌ e (mapped-is rest)

  pub is_mapped : (ys : List B) → Forall₂ Mapped (map f ys) ys
  is_mapped [] = none
  is_mapped (y ∷ ys) = more refl (is_mapped ys)

  pub run-mapped :
      (unset : B) {g : Meaning A} {g' : Meaning B}
      → Respects Mapped g g'
      → (ms : List Module) (number : ℕ) (vs : List B)
      → run (f unset) g ms number (map f vs) ≡ map f (run unset g' ms number vs)
  run-mapped unset gates ms number vs =
      mapped-is ((run-related Mapped (f unset) unset refl gates ms).keeps number (is_mapped vs))
