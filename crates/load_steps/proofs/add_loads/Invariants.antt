-- The loop's invariant: what is added and what the places ahead add are what all of them add.
use Rattle.load_steps.specs.Steps.{Placed}
use Rattle.load_steps.proofs.Placing.{Placing}
use Rattle.load_steps.proofs.add_loads.Given as goal

abbrev pub invariant-loop-i : goal.invariant-loop-i
invariant-loop-i l = (p : Placed l.image l.from l.to l.inside l.first l.loads l.fn.scratch) → Placing p l.i l.scratch
