use Rattle.text_words.proofs.Steps.{Unnamed}
use Rattle.text_words.proofs.module_named.Given as goal

abbrev pub invariant-loop-k : goal.invariant-loop-k
invariant-loop-k l = Unnamed l.text l.name l.k
