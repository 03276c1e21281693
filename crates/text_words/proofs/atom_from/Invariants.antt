use Rattle.std.proofs.Common.{◌-◌}
use Rattle.text_words.proofs.Steps.{Passing}
use Rattle.text_words.proofs.atom_from.Given as goal

-- Atoms are passed one by one.
abbrev pub invariant-loop : goal.invariant-loop
invariant-loop l = Passing l.text l.from l.more l.i (l.more - l.counter)
