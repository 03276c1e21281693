-- What is counted and what the occurrences ahead add are the module's.
use Rattle.std.proofs.Common.{◌-◌}
use Rattle.rewrite_counts.specs.Fours.{Reaching}
use Rattle.rewrite_counts.proofs.Walking.{Walk}
use Rattle.rewrite_counts.proofs.fours.fours_of.Given as goal

abbrev pub invariant-loop : goal.invariant-loop
invariant-loop l = (s : Reaching l.image l.starts l.k l.reached) → Walk s l.at (l.end - l.counter) l.own l.sum
