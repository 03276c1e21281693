-- The loop's invariant: the largest so far and the largest of the values that are left give the largest of all.
use Prim.Native.Nat.{max}
use mathlib.Core.Path.{◌≡◌}
use lib.ListN.{drop}
use Rattle.meaning.specs.Figures.{largest}
use Rattle.call_rows.proofs.values.largest.Given as goal

abbrev pub invariant-loop-i : goal.invariant-loop-i
invariant-loop-i l = max l.most (largest (drop l.i l.values)) ≡ largest l.values
