use Rattle.open_shortness.proofs.SmallNumbers.{Passed}
use Rattle.open_shortness.proofs.is_short.Given as goal

-- The bytes in front of place i are passed, and where `most` is at most 64 no two of them are a number of 512 or more.
abbrev pub invariant-loop-i : goal.invariant-loop-i
invariant-loop-i l = Passed l.file l.most l.i
