use Rattle.text_modes.specs.Ends.{Going}
use Rattle.text_modes.proofs.atom_end.Given as goal

-- The bytes that are passed are the atom's.
abbrev pub invariant-loop-i : goal.invariant-loop-i
invariant-loop-i l = Going l.text l.from l.i
