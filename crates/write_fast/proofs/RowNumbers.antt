-- What is left of a row of gates once those of the first bits are laid: the numbers of a gate, and the row behind it.
use Prim.Native.Nat.{ℕ, suc, ◌+◌, ◌-◌, ◌<◌, ◌≤◌}
use native.Mathlib.Nat.{add-zero}
use native.Mathlib.Omega.{arith}
use mathlib.Core.Path.{◌≡◌, refl}
use mathlib.Core.List.{List, [], ◌∷◌, ◌++◌}
use Rattle.meaning.specs.Layout.{each, occurrence_numbers}
use Rattle.meaning.specs.FastAdder.{gate_row}

-- The gate of bit i, and the row from bit i on.
abbrev pub gate_at : (kind net a b i : ℕ) → List ℕ
gate_at kind net a b i = 1 ∷ (net + i) ∷ kind ∷ 2 ∷ (a + i) ∷ (b + i) ∷ []

abbrev pub row_from : (kind net a b count i : ℕ) → List ℕ
row_from kind net a b count i = each occurrence_numbers (gate_row kind (net + i) (a + i) (b + i) (count - i))

numbers-of-gate : (kind net a b n : ℕ)
    → each occurrence_numbers (gate_row kind net a b (suc n))
    ≡ (1 ∷ net ∷ kind ∷ 2 ∷ a ∷ b ∷ []) ++ each occurrence_numbers (gate_row kind (suc net) (suc a) (suc b) n)
unfolding each gate_row occurrence_numbers
numbers-of-gate kind net a b n = refl

next-net : (net i : ℕ) → net + (i + 1) ≡ suc (net + i)
next-net net i = omega arith

module _ (kind net a b count : ℕ) where
  pub whole_row : row_from kind net a b count 0 ≡ each occurrence_numbers (gate_row kind net a b count)
  whole_row =
      let all : count - 0 ≡ count = omega arith in
      rw all (simp add-zero)

  pub rest-of-row : (i : ℕ) → i < count → row_from kind net a b count i ≡ gate_at kind net a b i ++ row_from kind net a b count (i + 1)
  rest-of-row i h =
      let left : count - i ≡ suc (count - (i + 1)) = omega arith in
      rw left (simp next-net (numbers-of-gate kind (net + i) (a + i) (b + i) (count - (i + 1))))

  pub no_row : (i : ℕ) → count ≤ i → row_from kind net a b count i ≡ []
  unfolding each gate_row
  no_row i h =
      let left : count - i ≡ 0 = omega arith in
      rw left
