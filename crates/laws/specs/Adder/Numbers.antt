-- The numbers of the written adder in the order of its file, as a loop writes them: what stands in front, the inputs, the outputs,
-- one cell after the other, and the two modules behind, which are the same at each width.
use Rattle.std.specs.Prelude.{◌≡◌, refl, List, [], ◌∷◌, ◌++◌, ℕ, zero, suc, ◌+◌, ◌*◌, length}
use Rattle.std.proofs.Common.{ap, append_assoc, arith, length-append}
use Rattle.meaning.specs.Layout.{each, occurrence_numbers, module_numbers, file_numbers}
use Rattle.meaning.specs.Adder.{up_from, adder_cells, ripple_adder, full_adder, half_adder, adder}
use Rattle.laws.specs.Adder.Nets.{length-up_from}

-- The numbers of cells.
unfoldable pub cells_numbers : (a b s k before n : ℕ) → List ℕ
cells_numbers a b s k before n = each occurrence_numbers (adder_cells a b s k before n)

-- A cell is 2 nets driven, sum and carry, by module 17, on 3 arguments: a's bit, b's bit and the carry before.
pub numbers-of-cell : (a b s k before n : ℕ)
    → cells_numbers a b s k before (suc n) ≡ 2 ∷ s ∷ k ∷ 17 ∷ 3 ∷ a ∷ b ∷ before ∷ cells_numbers (suc a) (suc b) (suc s) (suc k) k n
unfolding cells_numbers each occurrence_numbers adder_cells
numbers-of-cell a b s k before n = refl

pub numbers-of_no_cell : (a b s k before : ℕ) → cells_numbers a b s k before 0 ≡ []
unfolding cells_numbers each adder_cells
numbers-of_no_cell a b s k before = refl

pub length-of-cells : (a b s k before n : ℕ) → length (adder_cells a b s k before n) ≡ n
unfolding adder_cells
length-of-cells a b s k before zero = refl
length-of-cells a b s k before (suc n) = ap suc (length-of-cells (suc a) (suc b) (suc s) (suc k) k n)

pub length-of-cells_numbers : (a b s k before n : ℕ) → length (cells_numbers a b s k before n) ≡ 8 * n
length-of-cells_numbers a b s k before zero = rw (numbers-of_no_cell a b s k before)
length-of-cells_numbers a b s k before (suc n) =
    rw (numbers-of-cell a b s k before n) (omega (arith, length-of-cells_numbers (suc a) (suc b) (suc s) (suc k) k n))

-- The numbers of modules 17 and 16.
abbrev pub tail_numbers : List ℕ
tail_numbers =
    17 ∷ 3 ∷ 0 ∷ 1 ∷ 2 ∷ 2 ∷ 3 ∷ 4 ∷ 3
    ∷ 2 ∷ 5 ∷ 6 ∷ 16 ∷ 2 ∷ 0 ∷ 1
    ∷ 2 ∷ 3 ∷ 7 ∷ 16 ∷ 2 ∷ 5 ∷ 2
    ∷ 1 ∷ 4 ∷ 5 ∷ 2 ∷ 6 ∷ 7
    ∷ 16 ∷ 2 ∷ 0 ∷ 1 ∷ 2 ∷ 2 ∷ 3 ∷ 2
    ∷ 1 ∷ 2 ∷ 9 ∷ 2 ∷ 0 ∷ 1
    ∷ 1 ∷ 3 ∷ 10 ∷ 2 ∷ 0 ∷ 1
    ∷ []

numbers-of-tail : each module_numbers (full_adder ∷ half_adder ∷ []) ≡ tail_numbers
unfolding each module_numbers occurrence_numbers
numbers-of-tail = refl

-- The numbers of module 18.
pub numbers-of-first : (n : ℕ) → module_numbers (ripple_adder n)
    ≡ 18
    ∷ (2 * n + 1)
    ∷ (up_from 0 (2 * n + 1)
    ++ ((n + 1) ∷ (up_from (2 * n + 1) n ++ ((4 * n) ∷ n ∷ cells_numbers 1 (n + 1) (2 * n + 1) (3 * n + 1) 0 n))))
unfolding module_numbers ripple_adder cells_numbers
numbers-of-first n =
    rw (
      length-up_from 0 (2 * n + 1),
      length-append (up_from (2 * n + 1) n) ((4 * n) ∷ []),
      length-up_from (2 * n + 1) n,
      length-of-cells 1 (n + 1) (2 * n + 1) (3 * n + 1) 0 n,
      append_assoc (up_from (2 * n + 1) n),
    )

-- The whole file.
pub numbers-of-adder : (n : ℕ) → file_numbers (adder n)
    ≡ 3
    ∷ 18
    ∷ (2 * n + 1)
    ∷ (up_from 0 (2 * n + 1)
    ++ ((n + 1)
    ∷ (up_from (2 * n + 1) n
    ++ ((4 * n) ∷ n ∷ (cells_numbers 1 (n + 1) (2 * n + 1) (3 * n + 1) 0 n ++ tail_numbers)))))
unfolding file_numbers adder each
numbers-of-adder n =
    rw (
      numbers-of-first n,
      numbers-of-tail,
      append_assoc (up_from 0 (2 * n + 1)) _ tail_numbers,
      append_assoc (up_from (2 * n + 1) n) _ tail_numbers,
    )

pub length-of-numbers : (n : ℕ) → length (file_numbers (adder n)) ≡ 11 * n + 56
length-of-numbers n =
    rw (
      numbers-of-adder n,
      length-append (up_from 0 (2 * n + 1)),
      length-up_from 0 (2 * n + 1),
      length-append (up_from (2 * n + 1) n),
      length-up_from (2 * n + 1) n,
      length-append (cells_numbers 1 (n + 1) (2 * n + 1) (3 * n + 1) 0 n),
      length-of-cells_numbers 1 (n + 1) (2 * n + 1) (3 * n + 1) 0 n,
    )
    (omega arith)
