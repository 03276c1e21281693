-- Facts about lists that are written one after the other (`each`), and about what holds of every entry (`All`).
use Rattle.std.specs.Prelude.{ℕ, zero, suc, ◌<◌, ◌≡◌, length, get_or}
use Rattle.std.proofs.Common.{arith}
use Rattle.std.proofs.Math.Path.{refl}
use mathlib.Core.List.{List, [], ◌∷◌, ◌++◌, append_assoc}
use Rattle.meaning.specs.Lists.{All, none, more}
use Rattle.meaning.specs.Layout.{each}

module _ {A : Type 0} (f : A → List ℕ) where
  pub each_append : (xs ys : List A) → each f (xs ++ ys) ≡ each f xs ++ each f ys
  unfolding each
  each_append [] ys = refl
  each_append (x ∷ xs) ys = rw (each_append xs ys, append_assoc)

-- Writing what was written of each entry is writing each entry's own.
pub each-of-each : {A : Type 0} (f : ℕ → List ℕ) (g : A → List ℕ) (xs : List A)
    → each f (each g xs) ≡ each (λ x. each f (g x)) xs
unfolding each
each-of-each f g [] = refl
each-of-each f g (x ∷ xs) = rw (each_append f (g x) (each g xs), each-of-each f g xs)

-- What holds of every entry of two lists, one after the other, holds of the second.
pub all-behind : {A : Type 0} {P : A → Type 0} (xs : List A) {ys : List A} → All P (xs ++ ys) → All P ys
all-behind [] h = h
all-behind (x ∷ xs) (more px h) = all-behind xs h

pub all_map : {A : Type 0} {P Q : A → Type 0} {xs : List A} → ((x : A) → P x → Q x) → All P xs → All Q xs
all_map f none = none
all_map f (more {x = x} px h) = more (f x px) (all_map f h)

pub all-at : {A : Type 0} {P : A → Type 0} {xs : List A} → All P xs → (i : ℕ) (d : A) → i < length xs → P (get_or xs i d)
all-at none i d h = absurd (omega arith)
all-at (more px ps) zero d h = px
all-at (more px ps) (suc i) d h = all-at ps i d (omega arith)
