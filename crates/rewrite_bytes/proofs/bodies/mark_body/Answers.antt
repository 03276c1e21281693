-- In a turn the two lists of nets of the occurrence are parts of the numbers; both are marked.
use Rattle.std.proofs.Common.{◌≡◌, ◌+◌, ◌-◌, List, [], ◌∷◌, length, refl, ◌∙◌, arith}
use Rattle.std.proofs.Math.Nat.{sub-add-eq}
use Rattle.meaning.specs.Syntax.{Occurrence}
use Rattle.rewrite_bytes.specs.Bodies.{Markable}
use Rattle.rewrite_bytes.proofs.Marking.{Turn, there, turn, drives-part, takes_part, drives-within, takes-within, part_small, indexed, none-marked, more-marked, all-marked}
use Rattle.rewrite_bytes.proofs.bodies.mark_body.Goals as goal
use Rattle.rewrite_bytes.proofs.bodies.mark_body.Goals.{After-occurrence_at-o}

pub loop-init : goal.loop-init
loop-init c s = (s.os, record { stands = s.stands; many = omega (arith, s.many) }, none-marked s.os _ _)

pub occurrence_at-o-requires : goal.occurrence_at-o-requires
occurrence_at-o-requires c = let sofar = c.loop.invariant c.requires in there sofar.0 (omega arith) sofar.1

-- The occurrence whose turn it is.
now :
    (c : After-occurrence_at-o) (s : Markable c.args.numbers.now c.args.place c.args.count (length c.args.table.now))
    → Turn c.args.numbers.now c.loop.at (c.args.count - c.loop.counter) (c.loop.invariant s).0 c.occurrence_at-o.result
now c s = let sofar = c.loop.invariant s in turn sofar.0 (omega arith) sofar.1 c.occurrence_at-o.ensures

pub overflow_add-at : goal.overflow_add-at
overflow_add-at c = omega (arith, drives-within (now (goal.at.overflow_add-at c).After-occurrence_at-o c.requires))

pub overflow_add-at-in-loop : goal.overflow_add-at-in-loop
overflow_add-at-in-loop c = omega (arith, drives-within (now (goal.at.overflow_add-at-in-loop c).After-occurrence_at-o c.requires))

pub overflow_add-at-in-loop-2 : goal.overflow_add-at-in-loop-2
overflow_add-at-in-loop-2 c =
    omega (arith, drives-within (now (goal.at.overflow_add-at-in-loop-2 c).After-occurrence_at-o c.requires))

pub offset_bounds-numbers-at : goal.offset_bounds-numbers-at
offset_bounds-numbers-at c = omega (arith, drives-within (now (goal.at.offset_bounds-numbers-at c).After-occurrence_at-o c.requires))

pub slice_bounds-mark-end : goal.slice_bounds-mark-end
slice_bounds-mark-end c = omega (arith, drives-within (now (goal.at.slice_bounds-mark-end c).After-occurrence_at-o c.requires))

pub mark-requires : goal.mark-requires
mark-requires c =
    let at = c.loop.at in
    indexed _ (part_small (at + 1 + c.occurrence_at-o.result.drives - (at + 1)) (at + 1) c.requires.small) (c.loop.auto.table ∙ c.requires.wide)

pub offset_bounds-numbers-takes : goal.offset_bounds-numbers-takes
offset_bounds-numbers-takes c =
    let t = now (goal.at.offset_bounds-numbers-takes c).After-occurrence_at-o c.requires in
    omega (arith, takes-within t, t.read.to)

pub slice_bounds-mark-count-in-loop : goal.slice_bounds-mark-count-in-loop
slice_bounds-mark-count-in-loop c =
    let t = now (goal.at.slice_bounds-mark-count-in-loop c).After-occurrence_at-o c.requires in
    omega (arith, t.read.to)

pub slice_bounds-mark-start-in-loop : goal.slice_bounds-mark-start-in-loop
slice_bounds-mark-start-in-loop c =
    let t = now (goal.at.slice_bounds-mark-start-in-loop c).After-occurrence_at-o c.requires in
    omega (arith, t.read.to)

pub slice_bounds-mark-end-in-loop : goal.slice_bounds-mark-end-in-loop
slice_bounds-mark-end-in-loop c =
    let t = now (goal.at.slice_bounds-mark-end-in-loop c).After-occurrence_at-o c.requires in
    omega (arith, takes-within t)

pub mark-requires-in-loop : goal.mark-requires-in-loop
mark-requires-in-loop c =
    let place = c.occurrence_at-o.result in
    indexed _ (part_small (place.to - place.from) place.from c.requires.small) (c.mark.auto.table ∙ c.loop.auto.table ∙ c.requires.wide)

pub loop-preserved : goal.loop-preserved
loop-preserved c s =
    let t = now (goal.at.loop-preserved c).After-occurrence_at-o s in
    let sofar = c.loop.invariant s in
    let at = c.loop.at in
    let place = c.occurrence_at-o.result in (
      t.rest,
      rw (sub-add-eq _ c.loop.counter 1) t.next,
      more-marked t.is sofar.2 _ _ (drives-part t (at + 1 + place.drives - (at + 1)) (at + 1) (omega arith) refl)
          (takes_part t (place.to - place.from) place.from refl refl)
          c.mark.ensures c.mark-in-loop.ensures,
    )

none_left : (rest : List Occurrence) → length rest ≡ 0 → rest ≡ []
none_left [] e = refl
none_left (o ∷ os) e = absurd (omega arith)

pub returns : goal.returns
returns c s used stamped =
    let sofar = c.loop.invariant s in
    let none = none_left sofar.0 (omega (arith, sofar.1.many)) in
    all-marked none sofar.2 used stamped
