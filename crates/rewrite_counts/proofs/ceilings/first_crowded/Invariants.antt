-- The verdict on all modules is that on those ahead.
use Rattle.std.proofs.Common.{◌≡◌, drop}
use Rattle.meaning.specs.Withdrawn.{rewrite_file, nets_verdict}
use Rattle.rewrite_counts.specs.Ceilings.{Netted}
use Rattle.rewrite_counts.proofs.ceilings.first_crowded.Given as goal

abbrev pub invariant-loop-k : goal.invariant-loop-k
invariant-loop-k l =
    (s : Netted l.nets l.own l.modules) → nets_verdict 0 (rewrite_file s.table.ms) ≡ nets_verdict l.k (rewrite_file (drop l.k s.table.ms))
