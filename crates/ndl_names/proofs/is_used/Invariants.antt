use Rattle.std.proofs.Common.{◌≡◌, false}
use Rattle.meaning.specs.Ndl.{name_at, used_in}
use Rattle.ndl_names.proofs.is_used.Given as goal

-- The name is none of those passed.
abbrev pub invariant-loop-j : goal.invariant-loop-j
invariant-loop-j l = used_in l.names l.j (name_at l.names l.k) ≡ false
