-- It calls itself at later positions alone, so the measure is how many starts lie ahead. The loop's invariant: what the frame holds and what
-- the occurrences ahead add are the loads, what is counted and what they add is the tally, and what is kept is of the file.
use Prim.Native.Nat.{◌-◌}
use lib.ListN.{length}
use Rattle.tally_engine.specs.Rows.{marks, Kept, Tallying}
use Rattle.load_engine.specs.Loads.{LoadsKept, Workable}
use Rattle.tally_engine.proofs.Counting.{Counting}
use Rattle.load_engine.proofs.Loading.{Loading}
use Rattle.load_engine.proofs.+weigh_once.Given as goal

abbrev pub decreases-weigh_once : goal.decreases-weigh_once
decreases-weigh_once l = length l.image.now.starts.now - l.k

abbrev pub invariant-loop : goal.invariant-loop
invariant-loop l =
    ((s : Workable l.image.numbers.now l.image.starts.now l.image.nets.now l.k (length l.initial.scratch) l.fn.loads l.fn.known)
    → Loading s.loadable l.initial.scratch l.at (l.end - l.counter) l.most l.scratch × LoadsKept l.image.numbers.now l.image.starts.now s.loadable.rs l.loads l.known)
    × ((s : Tallying l.image.numbers.now l.image.starts.now l.k l.fn.rows (marks l.fn.known))
    → Counting s.countable l.at (l.end - l.counter) l.tally.counts × Kept s.countable.rs l.rows (marks l.known))
