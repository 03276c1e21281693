-- What is left of a choice once the gates of the first bits are laid: the gates of a bit, and those behind it; and how many gates a
-- choice has.
use Rattle.std.specs.Prelude.{ℕ, zero, suc, ◌+◌, ◌*◌, ◌-◌, ◌<◌, ◌≤◌, ◌≡◌, refl, List, [], ◌++◌, length}
use Rattle.std.proofs.Common.{add-zero, append_assoc}
use native.Mathlib.Omega.{arith}
use Rattle.meaning.specs.Layout.{each, occurrence_numbers}
use Rattle.meaning.specs.Counter.{gate_on, AND, OR, choose}

abbrev pub choice_numbers : (empty high low ands ors count : ℕ) → List ℕ
choice_numbers empty high low ands ors count = each occurrence_numbers (choose empty high low ands ors count)

-- The two gates of a bit.
abbrev pub bit_numbers : (empty high low ands ors : ℕ) → List ℕ
bit_numbers empty high low ands ors = occurrence_numbers (gate_on ands AND empty low) ++ occurrence_numbers (gate_on ors OR high ands)

numbers-of-bit : (empty high low ands ors n : ℕ)
    → choice_numbers empty high low ands ors (suc n)
    ≡ bit_numbers empty high low ands ors ++ choice_numbers empty (suc high) (suc low) (suc ands) (suc ors) n
unfolding each choose
numbers-of-bit empty high low ands ors n = rw append_assoc

pub length-of-choose : (empty high low ands ors n : ℕ) → length (choose empty high low ands ors n) ≡ 2 * n
unfolding choose
length-of-choose empty high low ands ors zero = refl
length-of-choose empty high low ands ors (suc n) = omega (arith, length-of-choose empty (suc high) (suc low) (suc ands) (suc ors) n)

-- The choice from bit i on, and the gates of bit i.
abbrev pub choice_from : (empty high low ands ors count i : ℕ) → List ℕ
choice_from empty high low ands ors count i = choice_numbers empty (high + i) (low + i) (ands + i) (ors + i) (count - i)

abbrev pub bit_at : (empty high low ands ors i : ℕ) → List ℕ
bit_at empty high low ands ors i = bit_numbers empty (high + i) (low + i) (ands + i) (ors + i)

next-net : (net i : ℕ) → net + (i + 1) ≡ suc (net + i)
next-net net i = omega arith

module _ (empty high low ands ors count : ℕ) where
  pub whole_choice : choice_from empty high low ands ors count 0 ≡ choice_numbers empty high low ands ors count
  whole_choice =
      let all : count - 0 ≡ count = omega arith in
      rw all (simp add-zero)

  pub rest-of_choice : (i : ℕ) → i < count
      → choice_from empty high low ands ors count i
      ≡ bit_at empty high low ands ors i ++ choice_from empty high low ands ors count (i + 1)
  rest-of_choice i h =
      let left : count - i ≡ suc (count - (i + 1)) = omega arith in
      rw left
      (simp next-net (numbers-of-bit empty (high + i) (low + i) (ands + i) (ors + i) (count - (i + 1))))

  pub no_choice : (i : ℕ) → count ≤ i → choice_from empty high low ands ors count i ≡ []
  unfolding each choose
  no_choice i h =
      let left : count - i ≡ 0 = omega arith in
      rw left
