use native.Mathlib.Omega.{arith}
use mathlib.Core.Path.{refl}
use lib.ListN.{length}
use Rattle.text_lines.proofs.Walks.{ahead-feed, ahead_return, ahead-next, ahead-end}
use Rattle.std.proofs.Common.{◌≡◌, ◌∙◌}
use Rattle.text_lines.proofs.line_end.Goals as goal

pub loop-i-init : goal.loop-i-init
loop-i-init c = record { few = c.requires; is = refl }

pub returns-then-text-i-eq10 : goal.returns-then-text-i-eq10
returns-then-text-i-eq10 c = ahead-feed _ _ _ c.loop-i.invariant c.loop-i-test.true c.if-text-i-eq10.true

pub returns-then-text-i-eq13 : goal.returns-then-text-i-eq13
returns-then-text-i-eq13 c = ahead_return _ _ _ c.loop-i.invariant c.loop-i-test.true c.if-text-i-eq10.false c.if-text-i-eq13.true

pub loop-i-preserved : goal.loop-i-preserved
loop-i-preserved c = ahead-next _ _ _ c.loop-i.invariant c.loop-i-test.true c.if-text-i-eq10.false c.if-text-i-eq13.false

pub returns : goal.returns
returns c =
    let end : length c.args.text.now ≡ c.loop-i.i = omega arith in
    end ∙ ahead-end _ _ _ c.loop-i.invariant c.loop-i-test.false
