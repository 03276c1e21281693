-- What each comparison says, and each end of a loop.
use Rattle.std.proofs.Common.{sym, ◌∙◌}
use Rattle.nets.specs.Walks.{duplicates-end}
use Rattle.nets.proofs.Pairs.{pair-passed, net-passed, pair-met}
use Rattle.nets.proofs.repeats.repeats.Goals as goal

pub loop-j-preserved : goal.loop-j-preserved
loop-j-preserved c =
    record {
      unmet = c.loop-j.invariant.unmet;
      left = c.loop-j.invariant.left ∙ pair-passed c.args.list.now c.search.i c.loop-j.j c.loop-j-test.true c.if-list-i.false;
    }

pub search-preserved : goal.search-preserved
search-preserved c =
    record {
      unmet = c.loop-j.invariant.unmet;
      left =
          c.search.invariant.left
          ∙ net-passed c.args.list.now c.search.i c.loop-j.j c.search-test.true c.loop-j-test.false c.loop-j.invariant.left;
    }

pub returns-after-search : goal.returns-after-search
returns-after-search c =
    c.search.invariant.unmet ∙ sym (c.search.invariant.left ∙ duplicates-end c.args.list.now c.search.i c.search-test.false)

pub returns-then-list-i : goal.returns-then-list-i
returns-then-list-i c =
    sym
    (c.search.invariant.left
    ∙ pair-met c.args.list.now c.search.i c.loop-j.j c.search-test.true c.loop-j-test.true c.loop-j.invariant.left c.if-list-i.true)
