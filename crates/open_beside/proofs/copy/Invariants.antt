use Rattle.std.proofs.Common.{◌≡◌, take}
use Rattle.open_beside.proofs.copy.Given as goal

-- The entries passed are the other list's.
abbrev pub invariant-loop-i : goal.invariant-loop-i
invariant-loop-i l = take l.i l.target ≡ take l.i l.source
