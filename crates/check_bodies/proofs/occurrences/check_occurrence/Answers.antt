-- `check_bodies::occurrences::check_occurrence` meets its contract: each way out is one of the verdict's answers, and behind the last two the
-- occurrence has become its part of the image. Assumes nothing.
use Rattle.std.proofs.Common.{◌≡◌, ◌+◌, ◌≤◌, ◌<◌, refl, ap, Ok, ◌∙◌, length, arith}
use lib.ListN.{length-set}
use Rattle.image.specs.Stands.{stands-tail}
use Rattle.image.specs.Pieces.{length-of-occurrence}
use Rattle.std.proofs.lemmas.Result.{err_from_is_err_and}
use Rattle.check_bodies.proofs.OccurrenceParts.{drives-stand, drives-below, takes-below, refers-below}
use Rattle.check_bodies.proofs.Passing.{list-ready, Learning, driven-here, Writing, taken_here}
use Rattle.check_bodies.proofs.Stepping.{judged, step-drives, step-takes, step-broken, step-gate, step_module}
use Rattle.check_bodies.proofs.occurrences.check_occurrence.Goals as goal
use Rattle.check_bodies.proofs.occurrences.check_occurrence.Goals.{Else-learnt-driven, Else-written-taken, In-Module}

-- The nets of the first list are new.
learning :
    (c : Else-learnt-driven)
    → Learning c.args.numbers.now c.args.slots.now c.args.base c.args.walked.next c.args.walked.nets c.entry-driven.result
    c.learn_list-learnt.result c.learn_list-learnt.new.slots c.learn_list-learnt.new.numbers
learning c =
    record { counted = c.entry-driven.ensures; list = c.learn_list-learnt.ensures; all = c.if-learnt-driven.false }

-- Behind them places fit.
fits :
    (c : Else-learnt-driven)
    → ((c.args.walked.next + 3 + c.learn_list-learnt.result ≤ length c.learn_list-learnt.new.numbers) × (length c.learn_list-learnt.new.numbers ≤ 65535))
fits c =
    let p = c.requires in
    (omega (arith, (driven-here (learning c) p).behind.within), omega (arith, c.learn_list-learnt.auto.numbers, p.placed.short))

-- Those of the second list are known.
writing :
    (c : Else-written-taken)
    → Writing c.args.numbers.now c.args.slots.now c.args.base c.args.walked.next c.args.walked.nets c.entry-driven.result
    c.learn_list-learnt.result c.entry-taken.result c.write_list-written.result c.learn_list-learnt.new.slots
    c.learn_list-learnt.new.numbers c.write_list-written.new.numbers
writing c =
    record {
      learning = record { counted = c.entry-driven.ensures; list = c.learn_list-learnt.ensures; all = c.if-learnt-driven.false };
      counted = c.entry-taken.ensures;
      list = c.write_list-written.ensures;
      all = c.if-written-taken.false;
    }

-- Behind them the numbers are as many as they were, and places fit.
sized : (c : Else-written-taken) → length c.write_list-written.new.numbers ≡ length c.args.numbers.now
sized c = c.write_list-written.auto.numbers ∙ c.learn_list-learnt.auto.numbers

room :
    (c : Else-written-taken)
    → (c.args.walked.nets + c.entry-driven.result ≤ length c.write_list-written.new.numbers)
    × (c.args.walked.next + 3 + c.learn_list-learnt.result + c.write_list-written.result ≤ length c.write_list-written.new.numbers)
    × (length c.write_list-written.new.numbers ≤ 65535)
room c =
    let p = c.requires in
    let n = driven-here (writing c).learning p in
    let t = taken_here (writing c) p in
    let long = length-of-occurrence p.o in (
      omega (arith, sized c, p.stands.within, p.placed.behind),
      omega (arith, sized c, p.stands.within),
      omega (arith, sized c, p.placed.short),
    )

-- A module that is meant has its position in the file.
inside : (c : In-Module) → c.in-Module.j < length c.requires.scene.ms
inside c =
    let p = c.requires in
    let w :
    Writing c.args.numbers.now c.args.slots.now c.args.base c.args.walked.next c.args.walked.nets c.entry-driven.result
    c.learn_list-learnt.result c.entry-taken.result c.write_list-written.result c.learn_list-learnt.new.slots
    c.learn_list-learnt.new.numbers c.write_list-written.new.numbers =
    record {
      learning = record { counted = c.entry-driven.ensures; list = c.learn_list-learnt.ensures; all = c.if-learnt-driven.false };
      counted = c.entry-taken.ensures;
      list = c.write_list-written.ensures;
      all = c.if-written-taken.false;
    } in
    (judged w c.judge_reference.ensures (c.in_ok-judge_reference.was ∙ ap Ok c.in-Module.is) p.scene p.o p.nets p.nets p.stands
    p.knows p.wide (record { same = λ x. refl })).2

pub entry-driven-requires : goal.entry-driven-requires
entry-driven-requires c = let p = c.requires in omega (arith, p.stands.within, length-of-occurrence p.o)

pub learn_list-learnt-requires-clause-list_ready : goal.learn_list-learnt-requires-clause-list_ready
learn_list-learnt-requires-clause-list_ready c =
    let p = c.requires in
    list-ready p refl refl p.o.drives (drives-stand p.o p.stands) (drives-below p.o p.indexes.in_slots)

pub returns-then-learnt-driven : goal.returns-then-learnt-driven
returns-then-learnt-driven c = step-drives c.entry-driven.ensures c.learn_list-learnt.ensures c.if-learnt-driven.true

pub overflow_add-r : goal.overflow_add-r
overflow_add-r c = let h = fits c in omega arith

pub overflow_add-r-2 : goal.overflow_add-r-2
overflow_add-r-2 c = let h = fits c in omega arith

pub overflow_add-t : goal.overflow_add-t
overflow_add-t c = let h = fits c in omega arith

pub entry-taken-requires : goal.entry-taken-requires
entry-taken-requires c = let h = fits c in omega arith

pub write_list-written-requires : goal.write_list-written-requires
write_list-written-requires c =
    let p = c.requires in
    list-ready p c.learn_list-learnt.auto.numbers c.learn_list-learnt.auto.slots p.o.takes
    (stands-tail (driven-here (learning (goal.at.write_list-written-requires c).Else-learnt-driven) p).behind) (takes-below p.o p.indexes.in_slots)

pub returns-then-written-taken : goal.returns-then-written-taken
returns-then-written-taken c =
    step-takes (learning (goal.at.returns-then-written-taken c).Else-learnt-driven) c.entry-taken.ensures
    c.write_list-written.ensures c.if-written-taken.true

pub offset_bounds-numbers-r : goal.offset_bounds-numbers-r
offset_bounds-numbers-r c = let h = room c in omega arith

pub bounds-numbers-r : goal.bounds-numbers-r
bounds-numbers-r c = let h = room (goal.at.bounds-numbers-r c).Else-written-taken in omega arith

pub judge_reference-requires : goal.judge_reference-requires
judge_reference-requires c =
    let p = c.requires in
    record {
      ms = p.scene.ms;
      numbered = p.scene.numbered;
      ported = p.scene.ported;
      unrepeated = p.scene.unrepeated;
      index = omega (arith, (taken_here (writing (goal.at.judge_reference-requires c).Else-written-taken) p).refers, refers-below p.o p.indexes.in_first);
    }

pub overflow_add-next : goal.overflow_add-next
overflow_add-next c = let h = room (goal.at.overflow_add-next c).Else-written-taken in omega arith

pub overflow_add-next-2 : goal.overflow_add-next-2
overflow_add-next-2 c = let h = room (goal.at.overflow_add-next-2 c).Else-written-taken in omega arith

pub overflow_add-nets : goal.overflow_add-nets
overflow_add-nets c = let h = room (goal.at.overflow_add-nets c).Else-written-taken in omega arith

pub overflow_add-numbers : goal.overflow_add-numbers
overflow_add-numbers c = let h = inside c in omega (arith, c.requires.scene.few)

pub overflow_cast-numbers : goal.overflow_cast-numbers
overflow_cast-numbers c = let h = inside c in omega (arith, c.requires.scene.few)

pub offset_bounds-numbers-r-in-Module : goal.offset_bounds-numbers-r-in-Module
offset_bounds-numbers-r-in-Module c = let h = room (goal.at.offset_bounds-numbers-r-in-Module c).Else-written-taken in omega arith

pub bounds-numbers-r-in-Module : goal.bounds-numbers-r-in-Module
bounds-numbers-r-in-Module c = let h = room (goal.at.bounds-numbers-r-in-Module c).Else-written-taken in omega arith

pub with_module-requires-clause-j_in_bounds : goal.with_module-requires-clause-j_in_bounds
with_module-requires-clause-j_in_bounds c =
    let h = inside (goal.at.with_module-requires-clause-j_in_bounds c).In-Module in
    let f = c.requires.figured in (omega (arith, f.sizes_long), omega (arith, f.rooms_long))

pub with_module-requires-clause-j_bound : goal.with_module-requires-clause-j_bound
with_module-requires-clause-j_bound c =
    let h = inside (goal.at.with_module-requires-clause-j_bound c).In-Module in
    let p = c.requires in
    omega (arith, p.fits, p.figured.small.below c.in-Module.j)

pub returns-in_err-judge_reference : goal.returns-in_err-judge_reference
returns-in_err-judge_reference c =
    let p = err_from_is_err_and c.from_residual.result c.from_residual.ensures.1 in
    rw (p.1, p.2)
    (step-broken (writing (goal.at.returns-in_err-judge_reference c).Else-written-taken) c.judge_reference.ensures c.in_err-judge_reference.was)

pub returns-in-Gate : goal.returns-in-Gate
returns-in-Gate c =
    step-gate (writing (goal.at.returns-in-Gate c).Else-written-taken) c.judge_reference.ensures (c.in_ok-judge_reference.was ∙ ap Ok c.in-Gate.is) c.with_gate.ensures

pub shape_of-numbers-in-Module : goal.shape_of-numbers-in-Module
shape_of-numbers-in-Module c = simp length-set (sized (goal.at.shape_of-numbers-in-Module c).Else-written-taken)

pub returns-in-Module : goal.returns-in-Module
returns-in-Module c =
    step_module (writing (goal.at.returns-in-Module c).Else-written-taken) c.judge_reference.ensures (c.in_ok-judge_reference.was ∙ ap Ok c.in-Module.is) c.with_module.ensures
