use Rattle.open_places.specs.Places.{Headed}
use Rattle.open_places.proofs.Naming.{NamedTo}
use Rattle.open_places.proofs.name.Given as goal

-- The modules that are passed are named.
abbrev pub invariant-loop-k : goal.invariant-loop-k
invariant-loop-k l = (h : Headed l.numbers l.starts l.modules l.initial.names) → NamedTo h.ms l.names l.k
