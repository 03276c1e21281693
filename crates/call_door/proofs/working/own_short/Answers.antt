-- Each kind of task is done in short lists.
use Rattle.std.proofs.Common.{ap}
use Rattle.call_door.specs.declared.asks.Own.{Own as Kind}
use Rattle.call_door.specs.declared.asks.Task.TheVariants.{Own}
use Rattle.call_door.proofs.Works.{small, counts, flattens}
use Rattle.call_door.proofs.working.own_short.Goals as goal

pub returns-in-Count : goal.returns-in-Count
returns-in-Count c s values = counts s (ap (λ (k : Kind). Own k) c.in-Count.is) c.counted.ensures (c.count_in.ensures s)

pub flatten_small-requires-clause-size_bound : goal.flatten_small-requires-clause-size_bound
flatten_small-requires-clause-size_bound c = small c.args.site c.in-Flatten.is c.requires.in_short

pub returns-in-Flatten : goal.returns-in-Flatten
returns-in-Flatten c s values = flattens s (ap (λ (k : Kind). Own k) c.in-Flatten.is) c.wrote.ensures (c.flatten_small.ensures s)
