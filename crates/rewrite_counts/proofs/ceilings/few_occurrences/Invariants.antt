-- The test of all modules is that of those ahead.
use Rattle.std.proofs.Common.{◌≡◌, drop}
use Rattle.meaning.specs.Withdrawn.{rewrite_file, occurrences_ok}
use Rattle.rewrite_counts.specs.Ceilings.{Peopled}
use Rattle.rewrite_counts.proofs.ceilings.few_occurrences.Given as goal

abbrev pub invariant-loop-k : goal.invariant-loop-k
invariant-loop-k l =
    (s : Peopled l.image l.starts l.own l.modules) → occurrences_ok (rewrite_file s.table.ms) ≡ occurrences_ok (rewrite_file (drop l.k s.table.ms))
