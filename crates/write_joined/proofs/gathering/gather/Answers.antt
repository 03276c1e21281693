-- What is gathered and what is left make the whole.
use Rattle.std.proofs.Common.{arith}
use Rattle.open_finding.specs.Here.{Here, here-at}
use Rattle.write_joined.specs.Gathering.{At, Gathering}
use Rattle.write_joined.proofs.Going.{going-none, going-room, going_more, going-all}
use Rattle.write_joined.proofs.gathering.gather.Goals as goal
use Rattle.write_joined.proofs.gathering.gather.Goals.{In-loop-k}

-- What a turn asks of any file that is gathered from: its module at the position.
here :
    (c : In-loop-k)
    → (let a = c.args in
    (g : Gathering a.house.now a.names.now a.places.now a.modules a.marks.now a.bytes.now a.done)
    → Here g.shelved.ms c.loop-k.k)
here c g = here-at g.shelved.ms c.loop-k.k (omega (arith, c.loop-k-test.true, g.shelved.all))

at :
    (c : In-loop-k)
    → (let a = c.args in
    let l = c.loop-k in
    (g : Gathering a.house.now a.names.now a.places.now a.modules a.marks.now a.bytes.now a.done)
    → At a.house.now a.names.now a.places.now l.k a.marks.now l.bytes l.all)
unfolding here
at c g =
    let l = c.loop-k in
    let h = here c g in
    let going = l.invariant g in
    record {
      own = g.own;
      marked = g.marked;
      modules = c.args.modules;
      shelved = g.shelved;
      m = h.m;
      later = h.later;
      here = h.here;
      index = g.indexed l.k c.loop-k-test.true;
      few = omega (arith, going.few, g.few, c.loop-k-test.true, g.shelved.all, g.shelved.encodes.within.modules.count);
      room = going-room going h;
    }

pub loop-k-init : goal.loop-k-init
loop-k-init c g = going-none g.own g.shelved.ms c.args.bytes.now c.args.done g.room

pub gather_one-all-requires : goal.gather_one-all-requires
gather_one-all-requires c = at (goal.at.gather_one-all-requires c).In-loop-k c.requires

pub loop-k-preserved : goal.loop-k-preserved
unfolding at
loop-k-preserved c g =
    let turn = (goal.at.loop-k-preserved c).In-loop-k in
    going_more (c.loop-k.invariant g) (here turn g) (c.gather_one-all.ensures (at turn g))

pub returns : goal.returns
returns c g = going-all (c.loop-k.invariant g) (omega (arith, c.loop-k-test.false, g.shelved.all))
