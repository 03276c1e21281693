-- Both tables have the counts of the modules passed, from the last on.
use Rattle.std.proofs.Common.{length}
use Rattle.rewrite_counts.specs.Fours.{Countable, Counted}
use Rattle.rewrite_counts.proofs.fours.count_fours.Given as goal

abbrev pub invariant-loop-k : goal.invariant-loop-k
invariant-loop-k l =
    (s : Countable l.image l.starts l.modules (length l.initial.own) (length l.initial.reached)) → Counted s.rs l.k l.own l.reached
