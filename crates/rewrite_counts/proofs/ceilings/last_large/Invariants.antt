-- The modules passed, from the last on, keep rule 17.
use Rattle.std.proofs.Common.{◌≡◌, drop}
use Rattle.meaning.specs.Verdict.{good, sizes_verdict}
use Rattle.meaning.specs.Withdrawn.{rewrite_file}
use Rattle.rewrite_counts.specs.Ceilings.{Sized}
use Rattle.rewrite_counts.proofs.ceilings.last_large.Given as goal

abbrev pub invariant-loop-k : goal.invariant-loop-k
invariant-loop-k l = (s : Sized l.sizes l.reached l.modules) → sizes_verdict l.k (rewrite_file (drop l.k s.ms)) ≡ good
