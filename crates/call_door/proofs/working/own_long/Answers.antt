-- Each kind of task is done in lists of its own.
use Rattle.std.proofs.Common.{ap}
use Rattle.call_door.specs.declared.asks.Own.{Own as Kind}
use Rattle.call_door.specs.declared.asks.Task.TheVariants.{Own}
use Rattle.call_door.proofs.Works.{counts, flattens}
use Rattle.call_door.proofs.working.own_long.Goals as goal

pub returns-in-Count : goal.returns-in-Count
returns-in-Count c s values = counts s (ap (λ (k : Kind). Own k) c.in-Count.is) c.counted.ensures (c.count_in.ensures s)

pub returns-in-Flatten : goal.returns-in-Flatten
returns-in-Flatten c s values = flattens s (ap (λ (k : Kind). Own k) c.in-Flatten.is) c.wrote.ensures (c.flatten_at.ensures s)
