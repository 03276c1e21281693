-- The verdict on all modules is that on those ahead.
use Rattle.std.proofs.Common.{◌≡◌, drop}
use Rattle.meaning.specs.Withdrawn.{withdrawn_verdict}
use Rattle.rewrite_counts.specs.Ceilings.{OwnTable}
use Rattle.rewrite_counts.proofs.ceilings.first_user.Given as goal

abbrev pub invariant-loop-k : goal.invariant-loop-k
invariant-loop-k l = (s : OwnTable l.own l.modules) → withdrawn_verdict 0 s.ms ≡ withdrawn_verdict l.k (drop l.k s.ms)
