-- The measure is how far the size is from the largest.
use Prim.Native.Nat.{◌-◌}
use Rattle.rows_space.proofs.+run.Given as goal

abbrev pub decreases-run : goal.decreases-run
decreases-run l = 65536 - l.size
