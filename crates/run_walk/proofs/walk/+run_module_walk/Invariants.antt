-- The measures of the cycle of `run_module` and `walk`: twice the count of modules from position k on, and one more for `run_module`, which
-- calls `walk` at the same position; `walk` calls `run_module` at later positions only. What the loop of `walk` keeps: what is left to run from
-- the frame so far fills the frame as the whole does from the inputs.
use Rattle.std.proofs.Common.{◌+◌, ◌-◌, ◌*◌, length}
use Rattle.run_walk.proofs.Progress.{Walking}
use Rattle.run_walk.proofs.walk.+run_module_walk.Given as goal

abbrev pub decreases-run_module : goal.decreases-run_module
decreases-run_module g l = 2 * (length l.image.now.starts.now - l.k) + 1

abbrev pub decreases-walk : goal.decreases-walk
decreases-walk g l = 2 * (length l.image.now.starts.now - l.k)

abbrev pub invariant-walk-loop : goal.invariant-walk-loop
invariant-walk-loop g l = let i = l.fn.image in
    Walking g.W.Work.work i.numbers.now i.starts.now i.nets.now l.fn.k l.initial.scratch l.initial.at l.fn.header.count l.initial.filled l.at
    (l.end - l.counter) l.filled l.scratch
