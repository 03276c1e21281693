use Rattle.text_file.specs.Sizes.{Sizing}
use Rattle.text_file.proofs.filing.size.Given as goal

abbrev pub invariant-loop-number : goal.invariant-loop-number
invariant-loop-number l = Sizing l.numbers l.all l.number-index
