use Rattle.text_words.proofs.Steps.{named_here, named-on, named_none, just, nowhere}
use Rattle.text_words.proofs.module_named.Goals as goal

pub returns-then-is_same : goal.returns-then-is_same
returns-then-is_same c =
    just c.loop-k-test.true
    (named_here c.args.text.now c.args.name.now _ c.loop-k.k _ c.loop-k-test.true c.loop-k.invariant c.module_name.ensures c.is_same.ensures c.if-is_same.true)

pub loop-k-preserved : goal.loop-k-preserved
loop-k-preserved c =
    named-on c.args.text.now c.args.name.now _ c.loop-k.k _ c.loop-k-test.true c.loop-k.invariant c.module_name.ensures c.is_same.ensures c.if-is_same.false

pub returns : goal.returns
returns c = nowhere c.loop-k-test.false (named_none c.args.text.now c.args.name.now _ c.loop-k-test.false c.loop-k.invariant)
