use Rattle.text_words.proofs.Steps.{Searching}
use Rattle.text_words.proofs.behind.Given as goal

abbrev pub invariant-loop-i : goal.invariant-loop-i
invariant-loop-i l = Searching l.text l.from l.level l.depth l.more l.i l.cursor
