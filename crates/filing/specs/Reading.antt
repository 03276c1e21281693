-- The counter's outputs read as shelves.
use Rattle.std.specs.Prelude.{ℕ, zero, suc, ◌+◌, ◌*◌, ◌≤◌, ◌<◌, ◌≡◌, List, [], ◌∷◌, ◌++◌, length, get_or}

-- Six outputs from a place on, low first.
abbrev pub six_bits : (outputs : List ℕ) (at : ℕ) → ℕ
six_bits outputs at =
    get_or outputs at 0 + 2 * get_or outputs (at + 1) 0 + 4 * get_or outputs (at + 2) 0
    + 8 * (get_or outputs (at + 3) 0 + 2 * get_or outputs (at + 4) 0 + 4 * get_or outputs (at + 5) 0)

-- The numbers that so many rows of outputs write.
unfoldable pub shelves_in : (rows : ℕ) (outputs : List ℕ) → List ℕ
shelves_in zero outputs = []
shelves_in (suc rows) outputs = shelves_in rows outputs ++ (six_bits outputs (rows * 6) ∷ [])

-- Each is an index of the table, and no count of it grows too large.
pub record Addable (rows : ℕ) (outputs table : List ℕ) : Type 0 where
  pub whole : length table ≡ 33
  pub long : rows * 6 ≤ length outputs
  pub inside : (i : ℕ) → i < rows → six_bits outputs (i * 6) < length table
  pub few : (k : ℕ) → k < length table → get_or table k 0 + rows < 4294967296
