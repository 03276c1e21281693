-- The modules that are passed are placed.
use Rattle.fault_parts.specs.Asked.{Whole}
use Rattle.fault_parts.proofs.Placing.{Placing}
use Rattle.fault_parts.proofs.modules.place_modules.Given as goal

abbrev pub invariant-loop-k : goal.invariant-loop-k
invariant-loop-k l = (w : Whole l.numbers) → Placing l.numbers l.starts w.ms l.at l.k
