-- The rows of tallies where a table of numbers says which are filled, those whose entry is above 0: a row looked up, and one more kept.
use Prim.Native.Nat.{ℕ, ◌+◌, ◌*◌, ◌≤◌, ◌<◌}
use mathlib.Core.Path.{◌≡◌, sym, ap, ◌∙◌}
use mathlib.Core.Bool.{true, false}
use mathlib.Core.Logic.{◌≢◌}
use mathlib.Core.List.{List}
use native.Mathlib.Omega.{arith}
use borrow.Author.Tests.{lt-ltb}
use lib.Dec.{ltb}
use lib.ListN.{length, get_or, set, replicate, length-set, length-map, get_or-map}
use lib.Seq.{get_or-set_other}
use Rattle.meaning.specs.Syntax.{Module}
use Rattle.meaning.specs.Figures.{tally}
use Rattle.tally_engine.specs.Tallies.{Countable}
use Rattle.tally_engine.specs.Rows.{row, marks, RowWritten, Kept, Tallying}
use Rattle.tally_engine.proofs.KeptRows.{filled-inside, none-tallied, row-filled, more-kept}

-- At first nothing is kept.
abbrev pub none-known : {image starts : List ℕ} {k : ℕ} → Countable image starts k → Tallying image starts k (replicate 2048 0) (marks (replicate 128 0))
none-known s = none-tallied s

many-marks : (known : List ℕ) → length (marks known) ≡ length known
many-marks known = length-map known (λ entry. ltb 0 entry)

mark-of : (known : List ℕ) (j : ℕ) → get_or (marks known) j false ≡ ltb 0 (get_or known j 0)
mark-of known j = get_or-map (λ entry. ltb 0 entry) known j 0

-- The row of an entry above 0 is there, and it is the tally.
pub known-row :
    {rs : List Module} {rows : List ℕ} (known : List ℕ) (k : ℕ) {kept : ℕ}
    → Kept rs rows (marks known)
    → kept ≡ get_or known k 0
    → 0 < kept
    → (16 * k + 16 ≤ length rows) × (row rows k ≡ tally rs (16 + k))
known-row known k rows is some =
    (omega (arith, filled-inside (marks known) k marked, rows.long), rows.row k marked)
  where
    marked : get_or (marks known) k false ≡ true
    marked = mark-of known k ∙ lt-ltb 0 (get_or known k 0) (omega arith)

-- There is a row for each entry.
pub rows_fit :
    {rs : List Module} {rows : List ℕ} (known : List ℕ) {many : ℕ}
    → Kept rs rows (marks known)
    → many ≡ length known
    → 16 * many ≤ length rows
rows_fit known kept same = omega (arith, kept.long, many-marks known)

-- What is kept, with the row of one entry more.
pub row-known :
    {rs : List Module} {counts rows rows' : List ℕ} (known : List ℕ) {known' : List ℕ} {k : ℕ} (entry : ℕ)
    → Kept rs rows (marks known)
    → known' ≡ set known k entry
    → RowWritten counts k (length known') rows rows'
    → counts ≡ tally rs (16 + k)
    → length rows' ≡ length rows
    → Kept rs rows' (marks known')
row-known known {known'} {k} entry kept is written all long =
    more-kept kept (row-filled written (many-marks known') same) all long
    (many-marks known' ∙ ap length is ∙ length-set known k entry ∙ sym (many-marks known))
  where
    same : (j : ℕ) → j ≢ k → get_or (marks known') j false ≡ get_or (marks known) j false
    same j other =
        mark-of known' j
        ∙ ap (λ (l : List ℕ). ltb 0 (get_or l j 0)) is
        ∙ ap (ltb 0) (get_or-set_other known k j entry 0 other)
        ∙ sym (mark-of known j)
