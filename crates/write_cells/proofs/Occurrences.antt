-- The numbers of a copy of the lines and of a cell as they are put, and what is left of the copies and of the cells once the first of them are
-- laid.
use Prim.Native.Nat.{ℕ, suc, ◌+◌, ◌*◌, ◌-◌, ◌<◌, ◌≤◌}
use native.Mathlib.Nat.{add-zero}
use native.Mathlib.Omega.{arith}
use mathlib.Core.Path.{◌≡◌, refl}
use mathlib.Core.List.{List, [], ◌∷◌, ◌++◌}
use Rattle.meaning.specs.Layout.{each, occurrence_numbers}
use Rattle.meaning.specs.Adder.{up_from}
use Rattle.meaning.specs.Alu.{BUF, copy_row, copies, lines_of, cell_at, cells}
use Rattle.laws.specs.Lists.{each_append}
use Rattle.write_cells.specs.Lists.{cell_list}

-- Numbers of a row, as sums and as successors.
module _ (s : ℕ) where
  pub one : s + 1 ≡ suc s
  one = omega arith

  pub two : s + 2 ≡ suc (suc s)
  two = omega arith

  pub three : s + 3 ≡ suc (suc (suc s))
  three = omega arith

  pub four : s + 4 ≡ suc (suc (suc (suc s)))
  four = omega arith

  pub five : s + 5 ≡ suc (suc (suc (suc (suc s))))
  five = omega arith

-- The buffer of a line, and the buffers from one on.
abbrev pub buffer_at : (lines net i : ℕ) → List ℕ
buffer_at lines net i = 1 ∷ (net + i) ∷ BUF ∷ 1 ∷ (lines + i) ∷ []

abbrev pub buffers_from : (lines net count i : ℕ) → List ℕ
buffers_from lines net count i = each occurrence_numbers (copy_row (net + i) (lines + i) (count - i))

numbers-of_buffer : (lines net n : ℕ)
    → each occurrence_numbers (copy_row net lines (suc n))
    ≡ (1 ∷ net ∷ BUF ∷ 1 ∷ lines ∷ []) ++ each occurrence_numbers (copy_row (suc net) (suc lines) n)
unfolding each copy_row occurrence_numbers
numbers-of_buffer lines net n = refl

next-net : (net i : ℕ) → net + (i + 1) ≡ suc (net + i)
next-net net i = omega arith

module _ (lines net count : ℕ) where
  pub all_buffers : buffers_from lines net count 0 ≡ each occurrence_numbers (copy_row net lines count)
  all_buffers =
      let all : count - 0 ≡ count = omega arith in
      rw all (simp add-zero)

  pub rest-of_buffers : (i : ℕ) → i < count
      → buffers_from lines net count i ≡ buffer_at lines net i ++ buffers_from lines net count (i + 1)
  rest-of_buffers i h =
      let left : count - i ≡ suc (count - (i + 1)) = omega arith in
      rw left (simp next-net (numbers-of_buffer (lines + i) (net + i) (count - (i + 1))))

  pub no_buffers : (i : ℕ) → count ≤ i → buffers_from lines net count i ≡ []
  unfolding each copy_row
  no_buffers i h = let left : count - i ≡ 0 = omega arith in rw left

-- A copy of the lines.
abbrev pub copy_list : (lines net : ℕ) → List ℕ
copy_list lines net = each occurrence_numbers (copy_row net lines 6)

numbers-of_copy : (lines net count : ℕ)
    → each occurrence_numbers (copies lines net (suc count)) ≡ copy_list lines net ++ each occurrence_numbers (copies lines (net + 6) count)
unfolding copies
numbers-of_copy lines net count = each_append occurrence_numbers (copy_row net lines 6) (copies lines (net + 6) count)

-- The copies from one on.
abbrev pub copies_from : (lines net count i : ℕ) → List ℕ
copies_from lines net count i = each occurrence_numbers (copies lines (net + 6 * i) (count - i))

module _ (lines net count : ℕ) where
  pub whole-copies : copies_from lines net count 0 ≡ each occurrence_numbers (copies lines net count)
  whole-copies =
      let all : count - 0 ≡ count = omega arith in
      let from : net + 6 * 0 ≡ net = omega arith in
      rw (all, from)

  pub rest-of-copies : (i : ℕ) → i < count
      → copies_from lines net count i ≡ copy_list lines (net + 6 * i) ++ copies_from lines net count (i + 1)
  rest-of-copies i h =
      let left : count - i ≡ suc (count - (i + 1)) = omega arith in
      let next : net + 6 * (i + 1) ≡ net + 6 * i + 6 = omega arith in
      rw (left, next) (numbers-of_copy lines (net + 6 * i) (count - (i + 1)))

  pub no_copies : (i : ℕ) → count ≤ i → copies_from lines net count i ≡ []
  unfolding each copies
  no_copies i h = let left : count - i ≡ 0 = omega arith in rw left

-- A cell, and the cells from one on.
numbers-of-cell : (n copied i : ℕ) → occurrence_numbers (cell_at n copied i) ≡ cell_list n copied i
unfolding occurrence_numbers up_from
numbers-of-cell n copied i =
    let s = lines_of n copied i in
    rw (one s, two s, three s, four s, five s)

abbrev pub cells_from : (n copied i : ℕ) → List ℕ
cells_from n copied i = each occurrence_numbers (cells n copied i (n - i))

module _ (n copied : ℕ) where
  pub whole_cells : cells_from n copied 0 ≡ each occurrence_numbers (cells n copied 0 n)
  whole_cells = let all : n - 0 ≡ n = omega arith in rw all

  pub rest-of-cells : (i : ℕ) → i < n → cells_from n copied i ≡ cell_list n copied i ++ cells_from n copied (i + 1)
  unfolding each cells
  rest-of-cells i h =
      let left : n - i ≡ suc (n - (i + 1)) = omega arith in
      let next : i + 1 ≡ suc i = omega arith in
      rw (left, numbers-of-cell n copied i, next)

  pub no_cells : (i : ℕ) → n ≤ i → cells_from n copied i ≡ []
  unfolding each cells
  no_cells i h = let left : n - i ≡ 0 = omega arith in rw left
