-- Each turn looks at one occurrence more.
use Rattle.std.proofs.Common.{◌≡◌, arith}
use Rattle.text_faults.proofs.Walking.{walking_first, facing, walking_stops, walking_on, walking_last}
use Rattle.text_faults.proofs.walks.walk.Goals as goal

pub loop-i-init : goal.loop-i-init
loop-i-init c = λ p b. walking_first b

pub occurrence_at-o-requires : goal.occurrence_at-o-requires
occurrence_at-o-requires c = let t = facing (c.loop-i.invariant c.requires.placed c.requires.body) c.loop-i-test.true in record { o = t.o; stands = t.there }

pub fault_in-atom-requires : goal.fault_in-atom-requires
fault_in-atom-requires c =
    let t = facing (c.loop-i.invariant c.requires.placed c.requires.body) c.loop-i-test.true in
    record {
      placed = c.requires.placed;
      from_le_modules = c.requires.from_le_modules;
      occurrence_there = record { o = t.o; stands = t.there };
      in_bounds = omega (arith, c.requires.in_bounds);
    }

pub overflow_add-o : goal.overflow_add-o
overflow_add-o c =
    let t = facing (c.loop-i.invariant c.requires.placed c.requires.body) c.loop-i-test.true in
    let place = c.occurrence_at-o.ensures t.o t.there in
    omega (arith, place.drives, place.driven.within)

pub overflow_sub-o : goal.overflow_sub-o
overflow_sub-o c =
    let t = facing (c.loop-i.invariant c.requires.placed c.requires.body) c.loop-i-test.true in
    let place = c.occurrence_at-o.ensures t.o t.there in
    omega (arith, place.to)

pub overflow_add-o-in-loop-i : goal.overflow_add-o-in-loop-i
overflow_add-o-in-loop-i c =
    let t = facing (c.loop-i.invariant c.requires.placed c.requires.body) c.loop-i-test.true in
    let place = c.occurrence_at-o.ensures t.o t.there in
    omega (arith, place.drives, place.from, place.to, place.takes.within)

pub returns-then-atom-o : goal.returns-then-atom-o
returns-then-atom-o c p b =
    let w = c.loop-i.invariant p b in
    let f = facing w c.loop-i-test.true in
    let place = c.occurrence_at-o.ensures f.o f.there in
    let a = (c.fault_in-atom.ensures p f.o w.signals f.there w.marked).0 in
    walking_stops w f _ a _ place.drives (omega (arith, c.if-atom-o.true, place.drives, place.to))

pub loop-i-preserved : goal.loop-i-preserved
loop-i-preserved c = λ p b.
    let w = c.loop-i.invariant p b in
    let f = facing w c.loop-i-test.true in
    let place = c.occurrence_at-o.ensures f.o f.there in
    let a = c.fault_in-atom.ensures p f.o w.signals f.there w.marked in
    walking_on w f _ a.0 _ place.next (omega (arith, c.if-atom-o.false, place.drives, place.to)) a.1

pub returns : goal.returns
returns c p b =
    let all : c.loop-i.i ≡ c.args.count = omega arith in
    rw (← all) (walking_last (c.loop-i.invariant p b) c.loop-i-test.false)
