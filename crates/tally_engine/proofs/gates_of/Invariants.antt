-- The loop's invariant: what is summed and what the counts ahead sum up to are the total.
use Prim.Native.Nat.{◌+◌}
use mathlib.Core.Path.{◌≡◌}
use lib.ListN.{drop}
use Rattle.laws.specs.Figures.Tally.{total}
use Rattle.tally_engine.proofs.gates_of.Given as goal

abbrev pub invariant-loop-kind : goal.invariant-loop-kind
invariant-loop-kind l = l.gates + total (drop l.kind l.tally.counts) ≡ total l.tally.counts
