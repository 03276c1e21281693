-- The resolved file is laid out as the file is: it has as many numbers, and each of its modules begins where that module begins in the
-- file. Module by module it is the file resolved.
use Prim.Native.Nat.{ℕ, zero, suc, ◌+◌}
use Rattle.std.specs.Prelude.{◌≡◌, length, take, drop}
use Rattle.std.proofs.Math.Path.{refl, sym, ap, ap₂}
use Rattle.std.proofs.Common.{◌∙◌, arith, zero-add, add-suc, take-append-drop}
use mathlib.Core.List.{List, [], ◌∷◌, ◌++◌, append_assoc, append-nil}
use Rattle.std.proofs.Math.Nat.{add-zero, suc-add}
use Rattle.std.proofs.Math.ListN.{length-append}
use Rattle.meaning.specs.Syntax.{Module}
use Rattle.meaning.specs.Layout.{each, module_numbers, file_numbers}
use Rattle.image.specs.Stands.{Stands, stands-skip, stands-front}
use Rattle.image.specs.Pieces.{moved}
use Rattle.image.specs.Resolved.{refer_to, resolve_module, resolve_from, resolve}
use Rattle.image.specs.Shapes.{number-of-resolved, length-of-resolved_module}
use Rattle.image.specs.Positions.{Numbered, none, some}

-- Where the module at a position begins among the numbers of its file.
unfoldable pub start_of : List Module → ℕ → ℕ
start_of ms k = suc (length (each module_numbers (take k ms)))

each_append : {A : Type 0} (f : A → List ℕ) (xs ys : List A) → each f (xs ++ ys) ≡ each f xs ++ each f ys
unfolding each
each_append f [] ys = refl
each_append f (x ∷ xs) ys = ap (λ (l : List ℕ). f x ++ l) (each_append f xs ys) ∙ sym (append_assoc (f x) (each f xs) (each f ys))

pub stands-at-start :
    (ms : List Module) (k : ℕ) {m : Module} {later : List Module} → drop k ms ≡ m ∷ later
    → Stands (file_numbers ms) (start_of ms k) (module_numbers m)
unfolding file_numbers start_of each
stands-at-start ms k {m} {later} e =
    moved (0 + suc (length (each module_numbers (take k ms)))) (sym (zero-add (suc (length (each module_numbers (take k ms))))))
    (stands-front (each module_numbers later) (stands-skip (length ms ∷ each module_numbers (take k ms)) whole))
  where
    parts : each module_numbers ms ≡ each module_numbers (take k ms) ++ (module_numbers m ++ each module_numbers later)
    parts =
        ap (each module_numbers) (sym (take-append-drop k ms))
        ∙ each_append module_numbers (take k ms) (drop k ms)
        ∙ ap (λ (l : List Module). each module_numbers (take k ms) ++ each module_numbers l) e

    whole :
        Stands (length ms ∷ each module_numbers ms) 0
        (length ms ∷ (each module_numbers (take k ms) ++ (module_numbers m ++ each module_numbers later)))
    whole =
        record {
          rest = [];
          here = ap (λ (l : List ℕ). length ms ∷ l) (parts ∙ sym (append-nil _));
          within = omega (arith, ap length parts);
        }

-- The parts of a resolved file.
module _ (refer : ℕ → ℕ) where
  length-of-resolve_from : (position : ℕ) (ms : List Module) → length (resolve_from refer position ms) ≡ length ms
  unfolding resolve_from
  length-of-resolve_from position [] = refl
  length-of-resolve_from position (m ∷ ms) = ap suc (length-of-resolve_from (suc position) ms)

  length-of-numbers :
      (position : ℕ) (ms : List Module) → length (each module_numbers (resolve_from refer position ms)) ≡ length (each module_numbers ms)
  unfolding resolve_from each
  length-of-numbers position [] = refl
  length-of-numbers position (m ∷ ms) =
      length-append (module_numbers (resolve_module refer position m)) (each module_numbers (resolve_from refer (suc position) ms))
      ∙ ap₂ ◌+◌ (length-of-resolved_module refer position m) (length-of-numbers (suc position) ms)
      ∙ sym (length-append (module_numbers m) (each module_numbers ms))

  take-resolve_from :
      (position k : ℕ) (ms : List Module) → take k (resolve_from refer position ms) ≡ resolve_from refer position (take k ms)
  unfolding resolve_from
  take-resolve_from position zero ms = refl
  take-resolve_from position (suc k) [] = refl
  take-resolve_from position (suc k) (m ∷ ms) =
      ap (λ (l : List Module). resolve_module refer position m ∷ l) (take-resolve_from (suc position) k ms)

  drop-resolve_from :
      (position k : ℕ) (ms : List Module) → drop k (resolve_from refer position ms) ≡ resolve_from refer (position + k) (drop k ms)
  unfolding resolve_from
  drop-resolve_from position zero ms = rw add-zero
  drop-resolve_from position (suc k) [] = refl
  drop-resolve_from position (suc k) (m ∷ ms) = rw (add-suc position k, ← suc-add position k) (drop-resolve_from (suc position) k ms)

  pub resolve_from-at :
      (position k : ℕ) (ms : List Module) {m : Module} {later : List Module} → drop k ms ≡ m ∷ later
      → drop k (resolve_from refer position ms) ≡ resolve_module refer (position + k) m ∷ resolve_from refer (suc (position + k)) later
  unfolding resolve_from
  resolve_from-at position k ms e = drop-resolve_from position k ms ∙ ap (resolve_from refer (position + k)) e

  pub numbered-resolve_from : (position : ℕ) (ms : List Module) → Numbered position (resolve_from refer position ms)
  unfolding resolve_from
  numbered-resolve_from position [] = none
  numbered-resolve_from position (m ∷ ms) = some (number-of-resolved refer position m) (numbered-resolve_from (suc position) ms)

module _ (ms : List Module) where
  pub numbered-resolve : Numbered 0 (resolve ms)
  unfolding resolve
  numbered-resolve = numbered-resolve_from (refer_to ms) 0 ms

  pub length-of-resolve : length (resolve ms) ≡ length ms
  unfolding resolve
  length-of-resolve = length-of-resolve_from (refer_to ms) 0 ms

  pub length-of-image : length (file_numbers (resolve ms)) ≡ length (file_numbers ms)
  unfolding resolve file_numbers
  length-of-image = ap suc (length-of-numbers (refer_to ms) 0 ms)

  pub start-of-resolved : (k : ℕ) → start_of (resolve ms) k ≡ start_of ms k
  unfolding resolve start_of
  start-of-resolved k =
      ap (λ (rs : List Module). suc (length (each module_numbers rs))) (take-resolve_from (refer_to ms) 0 k ms)
      ∙ ap suc (length-of-numbers (refer_to ms) 0 (take k ms))

  pub resolved-at :
      (k : ℕ) {m : Module} {later : List Module} → drop k ms ≡ m ∷ later
      → drop k (resolve ms) ≡ resolve_module (refer_to ms) k m ∷ resolve_from (refer_to ms) (suc k) later
  unfolding resolve
  resolved-at k e = resolve_from-at (refer_to ms) 0 k ms e ∙ rw (zero-add k)
