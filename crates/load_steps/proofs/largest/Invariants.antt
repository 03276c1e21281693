-- The loop's invariant: the larger of what was met and of what is ahead is the largest of all.
use Prim.Native.Nat.{max}
use mathlib.Core.Path.{◌≡◌}
use lib.ListN.{take, drop}
use Rattle.meaning.specs.Figures.{largest}
use Rattle.load_steps.proofs.largest.Given as goal

abbrev pub invariant-loop-i : goal.invariant-loop-i
invariant-loop-i l = max l.most (largest (drop l.i (take l.count l.scratch))) ≡ largest (take l.count l.scratch)
