-- The nets that are passed are known.
use Rattle.std.proofs.Common.{◌≡◌, ℕ, ◌+◌, List, drop}
use Rattle.fault_parts.specs.Asked.{Marked}
use Rattle.fault_parts.specs.Fronts.{known_front}
use Rattle.fault_parts.proofs.marks.count_known.Given as goal

abbrev pub invariant-loop-i : goal.invariant-loop-i
invariant-loop-i l = (known : List ℕ) → Marked l.marks known → known_front l.list known ≡ l.i + known_front (drop l.i l.list) known
