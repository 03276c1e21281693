use Rattle.std.proofs.Common.{drop}
use Rattle.open_finding.specs.Finding.{Searchable}
use Rattle.write_joined.specs.Marks.{Marks}
use Rattle.write_joined.proofs.marking.mark.Given as goal

-- The numbers from a position on are marked.
abbrev pub invariant-loop-k : goal.invariant-loop-k
invariant-loop-k l = (s : Searchable l.names l.modules) → Marks l.marks (drop l.k s.ms)
