use Rattle.std.proofs.Common.{arith, ◌≡◌, length}
use Rattle.text_words.proofs.Steps.{searching_on, search-met, search-off}
use Rattle.text_words.proofs.behind.Goals as goal

pub returns-then-cursor : goal.returns-then-cursor
returns-then-cursor c =
    search-met _ _ _ _ _ _ _ c.step-cursor.result c.loop-i.invariant c.loop-i-test.true c.step-cursor.ensures c.if-cursor.true

pub loop-i-preserved : goal.loop-i-preserved
loop-i-preserved c =
    searching_on _ _ _ _ _ _ _ c.step-cursor.result c.loop-i.invariant c.loop-i-test.true c.step-cursor.ensures c.if-cursor.false

pub returns : goal.returns
returns c =
    let end : c.loop-i.i ≡ length c.args.text.now = omega arith in
    rw end at (search-off _ _ _ _ _ _ _ c.loop-i.invariant c.loop-i-test.false)
