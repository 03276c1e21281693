-- Tallies kept by position: a row of sixteen counts for each module, and a list that says which rows are filled. So each module that is
-- reached is counted once.
use Rattle.std.specs.Prelude.{ℕ, ◌+◌, ◌*◌, ◌≤◌, ◌<◌, ◌≡◌, ◌≢◌, Bool, true, false, List, map, ltb, length, get_or, take, drop}
use Rattle.meaning.specs.Syntax.{Module}
use Rattle.meaning.specs.Figures.{tally}
use Rattle.tally_engine.specs.Tallies.{Countable}

-- The row of a position.
abbrev pub row : (rows : List ℕ) (j : ℕ) → List ℕ
row rows j = take 16 (drop (16 * j) rows)

-- Row k of so many holds the counts, and the other rows are as they were. A position behind the rows has none.
pub record RowWritten (counts : List ℕ) (k count : ℕ) (rows rows' : List ℕ) : Type 0 where
  pub here : k < count → row rows' k ≡ counts
  pub others : (j : ℕ) → j ≢ k → row rows' j ≡ row rows j

-- Which rows are filled, where a table of numbers says it: those whose entry is above 0.
abbrev pub marks : (known : List ℕ) → List Bool
marks known = map (λ entry. ltb 0 entry) known

-- Row k holds the counts where it is filled, and the other rows are as they were.
pub record Filled (counts : List ℕ) (k : ℕ) (rows : List ℕ) (filled : List Bool) (rows' : List ℕ) (filled' : List Bool) : Type 0 where
  pub here : get_or filled' k false ≡ true → row rows' k ≡ counts
  pub others : (j : ℕ) → j ≢ k → (get_or filled' j false ≡ get_or filled j false) × (row rows' j ≡ row rows j)

-- Each row that is filled holds the tally of the module at its position.
pub record Kept (rs : List Module) (rows : List ℕ) (filled : List Bool) : Type 0 where
  pub long : 16 * length filled ≤ length rows
  pub row : (j : ℕ) → get_or filled j false ≡ true → row rows j ≡ tally rs (16 + j)

-- The module at position k can be counted, and what is kept is of the same file.
pub record Tallying (image starts : List ℕ) (k : ℕ) (rows : List ℕ) (filled : List Bool) : Type 0 where
  pub countable : Countable image starts k
  pub kept : Kept countable.rs rows filled

-- Its tally, and what is kept now.
pub record Tallied (rs : List Module) (k : ℕ) (counts rows : List ℕ) (filled : List Bool) : Type 0 where
  pub is : counts ≡ tally rs (16 + k)
  pub kept : Kept rs rows filled
