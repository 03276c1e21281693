use Rattle.text_words.proofs.Steps.{Nearing}
use Rattle.text_words.proofs.next_atom.Given as goal

abbrev pub invariant-loop-i : goal.invariant-loop-i
invariant-loop-i l = Nearing l.text l.from l.i
