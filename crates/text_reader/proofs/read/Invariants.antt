use Prim.Native.Nat.{◌-◌}
use lib.ListN.{length}
use Rattle.text_reader.specs.Loop.{Looping}
use Rattle.text_reader.proofs.read.Given as goal

abbrev pub invariant-loop-i : goal.invariant-loop-i
invariant-loop-i l = Looping l.text l.initial.numbers l.initial.tree l.numbers l.tree l.state l.i

abbrev pub decreases-loop-i : goal.decreases-loop-i
decreases-loop-i l = length l.text - l.i
