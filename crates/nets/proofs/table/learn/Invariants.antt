-- Where no two nets of the list are the same, the table knows those before place i.
use Rattle.std.proofs.Common.{◌≡◌, false, [], take}
use Rattle.meaning.specs.Boxlist.{duplicates}
use Rattle.nets.specs.Slots.{Knows}
use Rattle.nets.proofs.table.learn.Given as goal

abbrev pub invariant-loop-i : goal.invariant-loop-i
invariant-loop-i l = Knows l.fn.table l.base [] → duplicates l.list ≡ false → Knows l.table l.base (take l.i l.list)
