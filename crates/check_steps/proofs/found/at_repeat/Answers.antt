-- No number repeats, or the number of the first module that is repeated decides between the rules.
use Rattle.std.proofs.Common.{arith}
use Rattle.check_steps.proofs.Repeats.{none-repeats, repeat_starts, repeat_of-gate, repeat_of_module}
use Rattle.check_steps.proofs.found.at_repeat.Goals as goal
use Rattle.check_steps.proofs.found.at_repeat.Goals.{then-numbers-start-lt16, else-numbers-start-lt16}

pub returns-then-modules-repeated : goal.returns-then-modules-repeated
returns-then-modules-repeated c b = none-repeats b c.if-modules-repeated.true

pub offset_bounds-numbers-start : goal.offset_bounds-numbers-start
offset_bounds-numbers-start c = let p = c.requires in omega (arith, repeat_starts p c.if-modules-repeated.false, p.short)

pub bounds-numbers-start : goal.bounds-numbers-start
bounds-numbers-start c = repeat_starts c.requires c.if-modules-repeated.false

pub returns : goal.returns
returns c b =
    elim c.if-numbers-start-lt16.branch [
      | then-numbers-start-lt16 w ↦ rw (c.at.ensures, w.rule-is) (repeat_of-gate b c.if-modules-repeated.false w.if-numbers-start-lt16.true)
      | else-numbers-start-lt16 w ↦ rw (c.at.ensures, w.rule-is) (repeat_of_module b c.if-modules-repeated.false w.if-numbers-start-lt16.false)
    ]
