-- What is left of the adder's cells once those of the first bits are laid: the numbers of a cell, which can be written, and the cells
-- behind it.
use Prim.Native.Nat.{ℕ, suc, ◌+◌, ◌*◌, ◌-◌, ◌<◌, ◌≤◌}
use native.Mathlib.Omega.{arith}
use mathlib.Core.Path.{◌≡◌}
use mathlib.Core.List.{List, [], ◌∷◌, ◌++◌}
use Rattle.meaning.specs.Lists.{All, none, more}
use Rattle.meaning.specs.Ceilings.{Small}
use Rattle.laws.specs.Adder.Numbers.{cells_numbers, numbers-of-cell, numbers-of_no_cell}

-- The cells of an adder of width n from bit i on.
abbrev pub cells_from : (n i carry_in : ℕ) → List ℕ
cells_from n i carry_in = cells_numbers (1 + i) (n + 1 + i) (2 * n + 1 + i) (3 * n + 1 + i) carry_in (n - i)

-- The cell of bit i.
abbrev pub cell_of : (n i carry_in : ℕ) → List ℕ
cell_of n i carry_in = 2 ∷ (2 * n + 1 + i) ∷ (3 * n + 1 + i) ∷ 17 ∷ 3 ∷ (1 + i) ∷ (n + 1 + i) ∷ carry_in ∷ []

pub small-cell : (n i carry_in : ℕ) → n ≤ 64 → i < n → carry_in ≤ 4 * n → All Small (cell_of n i carry_in)
small-cell n i carry_in most inside low =
    more {x = 2} (omega arith)
    (more {x = 2 * n + 1 + i} (omega arith)
    (more {x = 3 * n + 1 + i} (omega arith)
    (more {x = 17} (omega arith)
    (more {x = 3} (omega arith)
    (more {x = 1 + i} (omega arith) (more {x = n + 1 + i} (omega arith) (more {x = carry_in} (omega arith) none)))))))

pub all-cells : (n : ℕ) → cells_from n 0 0 ≡ cells_numbers 1 (n + 1) (2 * n + 1) (3 * n + 1) 0 n
all-cells n =
    let b : n + 1 + 0 ≡ n + 1 = omega arith in
    let sum : 2 * n + 1 + 0 ≡ 2 * n + 1 = omega arith in
    let carry : 3 * n + 1 + 0 ≡ 3 * n + 1 = omega arith in
    let left : n - 0 ≡ n = omega arith in
    rw (b, sum, carry, left)

pub rest-of-cells : (n i carry_in : ℕ) → i < n → cells_from n i carry_in ≡ cell_of n i carry_in ++ cells_from n (i + 1) (3 * n + 1 + i)
rest-of-cells n i carry_in h =
    let a : 1 + (i + 1) ≡ suc (1 + i) = omega arith in
    let b : n + 1 + (i + 1) ≡ suc (n + 1 + i) = omega arith in
    let sum : 2 * n + 1 + (i + 1) ≡ suc (2 * n + 1 + i) = omega arith in
    let carry : 3 * n + 1 + (i + 1) ≡ suc (3 * n + 1 + i) = omega arith in
    let left : n - i ≡ suc (n - (i + 1)) = omega arith in
    rw (a, b, sum, carry, left)
    (numbers-of-cell (1 + i) (n + 1 + i) (2 * n + 1 + i) (3 * n + 1 + i) carry_in (n - (i + 1)))

pub no_cells : (n i carry_in : ℕ) → n ≤ i → cells_from n i carry_in ≡ []
no_cells n i carry_in h =
    let left : n - i ≡ 0 = omega arith in
    rw left (numbers-of_no_cell (1 + i) (n + 1 + i) (2 * n + 1 + i) (3 * n + 1 + i) carry_in)
