use Rattle.open_finding.specs.Finding.{Searchable}
use Rattle.open_finding.proofs.ModuleSearch.{Sought}
use Rattle.open_finding.proofs.find.Given as goal

-- None of the modules passed has the number.
abbrev pub invariant-loop-k : goal.invariant-loop-k
invariant-loop-k l = (s : Searchable l.names l.modules) → Sought s.ms l.number l.k
