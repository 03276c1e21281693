use Rattle.write_joined.specs.Gathering.{Gathering}
use Rattle.write_joined.proofs.Going.{Going}
use Rattle.write_joined.proofs.gathering.gather.Given as goal

-- What is gathered and what is left make the whole.
abbrev pub invariant-loop-k : goal.invariant-loop-k
invariant-loop-k l =
    (g : Gathering l.house l.names l.places l.modules l.marks l.initial.bytes l.initial.all)
    → Going g.own g.shelved.ms l.initial.bytes l.bytes l.initial.all l.all l.k
