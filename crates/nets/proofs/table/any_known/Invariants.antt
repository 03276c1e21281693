-- The list is disjoint from the nets just if it is from the place of the turn on.
use Rattle.std.proofs.Common.{◌≡◌, ℕ, List, drop}
use Rattle.meaning.specs.Boxlist.{disjoint}
use Rattle.nets.specs.Slots.{Knows}
use Rattle.nets.proofs.table.any_known.Given as goal

abbrev pub invariant-loop-net : goal.invariant-loop-net
invariant-loop-net l = (nets : List ℕ) → Knows l.table l.base nets → disjoint l.list nets ≡ disjoint (drop l.net-index l.list) nets
