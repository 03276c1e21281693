-- The module that is placed lies further back with each call for a submodule: with n starts in the table, the measure is 2 (n - k) + 1 for
-- `place_module` at position k and 2 (n - k) for `walk`. What the loop of `walk` keeps: every plan that could be carried out at the start has
-- come so far.
use Rattle.std.proofs.Common.{◌+◌, ◌-◌, ◌*◌, length}
use Rattle.flat_engine.proofs.Progress.{Walking}
use Rattle.flat_engine.proofs.walk.+place_module_walk.Given as goal

abbrev pub decreases-place_module : goal.decreases-place_module
decreases-place_module l = 2 * (length l.image.now.starts.now - l.k) + 1

abbrev pub decreases-walk : goal.decreases-walk
decreases-walk l = 2 * (length l.image.now.starts.now - l.k)

abbrev pub invariant-walk-loop : goal.invariant-walk-loop
invariant-walk-loop l =
    Walking l.image.numbers.now l.image.starts.now l.image.nets.now l.k (record { next = l.initial.next; at = l.initial.behind }) l.initial.scratch l.initial.bytes l.initial.at
    l.end l.initial.filled l.at (l.end - l.counter) l.filled l.scratch l.bytes (record { next = l.next; at = l.behind })
