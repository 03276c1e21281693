-- `call_text::file` calls itself at a larger size: the measure is how far the size is from the largest.
use Prim.Native.Nat.{◌-◌}
use Rattle.call_text.proofs.+file.Given as goal

abbrev pub decreases-file : goal.decreases-file
decreases-file l = 262144 - l.size
