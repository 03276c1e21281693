-- At each turn the net's entry says whether it is known.
use Rattle.std.proofs.Common.{◌≡◌, ℕ, ◌+◌, ◌<◌, Bool, true, false, not, ◌&&◌, leb, List, length, get_or, drop, sym, ap, ◌∙◌, le-leb}
use borrow.Author.Tests.{lt-leb}
use Rattle.meaning.specs.Boxlist.{disjoint}
use Rattle.nets.specs.Slots.{Knows}
use Rattle.nets.specs.Tables.{known_member}
use Rattle.nets.specs.Walks.{disjoint-here, disjoint-end}
use Rattle.nets.proofs.table.any_known.Goals as goal

tested :
    {table : List ℕ} {base : ℕ} {nets : List ℕ} (list : List ℕ) (i : ℕ) (known : Bool) → i < length list → Knows table base nets
    → leb base (get_or table (get_or list i 0) 0) ≡ known
    → disjoint (drop i list) nets ≡ (not known && disjoint (drop (i + 1) list) nets)
tested {table} {base} {nets} list i known here k test =
    rw (disjoint-here list i here nets, known_member table base nets k (get_or list i 0), test)

pub returns-then-base-table : goal.returns-then-base-table
returns-then-base-table c nets k =
    sym
    (ap not
    (c.loop-net.invariant nets k
    ∙ tested c.args.list.now c.loop-net.net-index true c.loop-net-test.true k (le-leb _ _ c.if-base-table.true)))

pub loop-net-preserved : goal.loop-net-preserved
loop-net-preserved c nets k =
    c.loop-net.invariant nets k
    ∙ tested c.args.list.now c.loop-net.net-index false c.loop-net-test.true k (lt-leb _ _ c.if-base-table.false)

pub returns : goal.returns
returns c nets k =
    sym (ap not (c.loop-net.invariant nets k ∙ disjoint-end c.args.list.now c.loop-net.net-index c.loop-net-test.false nets))
