-- Each kind of task is done. Where it was asked whether short lists serve, the task is known.
use Rattle.call_door.specs.declared.asks.Task.TheVariants.{Own}
use Rattle.call_door.proofs.Works.{told, runs, runs-rows}
use Rattle.call_door.proofs.working.work_at.Goals as goal

pub returns-then-image-gt1024 : goal.returns-then-image-gt1024
returns-then-image-gt1024 c s = told s (Own _) c.in-Own.is (c.own_long.ensures s _)

pub own_short-requires-clause-in_short : goal.own_short-requires-clause-in_short
own_short-requires-clause-in_short c = c.in_short.ensures c.if-in_short.true

pub returns-then-in_short : goal.returns-then-in_short
returns-then-in_short c s = told s (Own _) c.in-Own.is (c.own_short.ensures s _)

pub returns-in-Evaluate : goal.returns-in-Evaluate
returns-in-Evaluate c s = runs s c.in-Evaluate.is c.ran.ensures (c.run_at.ensures s)

pub returns-in-Rows : goal.returns-in-Rows
returns-in-Rows c s = runs-rows s _ c.in-Rows.is c.ran-in-Rows.ensures (c.run_at-in-Rows.ensures s)

pub returns-else-in_short : goal.returns-else-in_short
returns-else-in_short c s = told s (Own _) c.in-Own.is (c.own_long-in-Own.ensures s _)
