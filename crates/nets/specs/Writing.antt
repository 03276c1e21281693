-- A list whose first entries are replaced, one after the other, by what a function makes of them.
use Rattle.std.specs.Prelude.{◌≡◌, ℕ, zero, suc, ◌+◌, ◌<◌, ◌≤◌, List, [], ◌∷◌, ◌++◌, map, length, take, drop, slice_index, slice_set, refl}
use Rattle.std.proofs.Common.{add-one, arith, sym, ap, ◌∙◌}

abbrev pub replaced : (f : ℕ → ℕ) (list : List ℕ) (i : ℕ) → List ℕ
replaced f list i = map f (take i list) ++ drop i list

module _ (f : ℕ → ℕ) where
  -- The next entry is replaced in its turn.
  replaced-one : (list : List ℕ) (i : ℕ) → i < length list → slice_set (replaced f list i) i (f (slice_index list i)) ≡ replaced f list (suc i)
  replaced-one [] i here = absurd (omega arith)
  replaced-one (x ∷ xs) zero here = refl
  replaced-one (x ∷ xs) (suc i) here = ap (◌∷◌ (f x)) (replaced-one xs i (omega arith))

  pub replaced-next : (list : List ℕ) (i : ℕ) → i < length list → slice_set (replaced f list i) i (f (slice_index list i)) ≡ replaced f list (i + 1)
  replaced-next list i here = replaced-one list i here ∙ sym (ap (replaced f list) (add-one i))

  pub replaced-all : (list : List ℕ) (i : ℕ) → length list ≤ i → replaced f list i ≡ map f list
  replaced-all [] zero end = refl
  replaced-all [] (suc i) end = refl
  replaced-all (x ∷ xs) zero end = absurd (omega arith)
  replaced-all (x ∷ xs) (suc i) end = ap (◌∷◌ (f x)) (replaced-all xs i (omega arith))
