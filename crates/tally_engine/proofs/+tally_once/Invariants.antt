-- It calls itself at later positions alone, so the measure is how many starts lie ahead. The loop's invariant: what is counted and what the
-- occurrences ahead add are the module's tally, and the rows that are filled hold the tallies of their modules.
use Prim.Native.Nat.{◌-◌}
use lib.ListN.{length}
use Rattle.tally_engine.specs.Rows.{Kept, Tallying}
use Rattle.tally_engine.proofs.Counting.{Counting}
use Rattle.tally_engine.proofs.+tally_once.Given as goal

abbrev pub decreases-tally_once : goal.decreases-tally_once
decreases-tally_once l = length l.starts.now - l.k

abbrev pub invariant-loop : goal.invariant-loop
invariant-loop l =
    (s : Tallying l.image l.starts l.k l.fn.rows l.fn.filled)
    → Counting s.countable l.at (l.end - l.counter) l.tally.counts × Kept s.countable.rs l.rows l.filled
