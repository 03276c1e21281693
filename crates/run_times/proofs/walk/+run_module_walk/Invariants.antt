-- The measures of the cycle of `run_module` and `walk`: twice the count of modules from position k on, and one more for `run_module`, which
-- calls `walk` at the same position; `walk` calls `run_module` at later positions only. What the loop of `walk` keeps in each of the two lists:
-- what is left to run from the frame so far fills the frame as the whole does from the inputs.
use Rattle.std.proofs.Common.{◌+◌, ◌-◌, ◌*◌, length}
use Rattle.meaning.specs.Family.{delay_in}
use Rattle.run_walk.proofs.Progress.{Walking}
use Rattle.run_times.specs.Times.{one_each, times_work}
use Rattle.run_times.proofs.walk.+run_module_walk.Given as goal

abbrev pub decreases-run_module : goal.decreases-run_module
decreases-run_module l = 2 * (length l.image.now.starts.now - l.k) + 1

abbrev pub decreases-walk : goal.decreases-walk
decreases-walk l = 2 * (length l.image.now.starts.now - l.k)

abbrev pub invariant-walk-loop : goal.invariant-walk-loop
invariant-walk-loop l =
    let i = l.fn.image in
    let first = l.initial in
    let count = l.fn.header.count in
    Walking (times_work one_each) i.numbers.now i.starts.now i.nets.now l.fn.k first.units first.at count first.filled l.at (l.end - l.counter)
    l.filled l.units
    × Walking (times_work (delay_in l.fn.family.delays)) i.numbers.now i.starts.now i.nets.now l.fn.k first.others first.at count first.filled l.at
    (l.end - l.counter) l.filled l.others
