-- N entries are as many as are asked for.
use Rattle.std.proofs.Common.{ℕ, List, replicate, arith}
use Rattle.std.proofs.lemmas.List.{length-replicate}
use Rattle.rows_space.proofs.Resizing.{resized}
use Rattle.rows_space.proofs.in_entries.Goals as goal

pub returns : goal.returns
returns g c s = c.run_rows.ensures (resized s (omega (arith, s.roomy, length-replicate {A = List ℕ} g.row.N (replicate 8 0))))
