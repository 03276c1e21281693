-- The same rows, in another count of entries that has the module's room.
use Prim.Native.Nat.{ℕ, ◌≤◌}
use mathlib.Core.List.{List}
use Rattle.open_finding.specs.declared.Site.{Site}
use Rattle.run_rows.specs.Running.{RowsRun}

abbrev pub resized :
    {image starts nets : List ℕ} {site : Site} {rows : ℕ} {values : List ℕ} {entries entries' out : ℕ}
    → RowsRun image starts nets site rows values entries out
    → site.room ≤ entries'
    → RowsRun image starts nets site rows values entries' out
resized s roomy = record { standing = s.standing; fed = s.fed; roomy = roomy; fits = s.fits }
