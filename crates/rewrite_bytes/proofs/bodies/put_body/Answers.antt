-- An occurrence is one of the four gates, and takes the two lowest unused nets, or stays as it is.
use Rattle.std.proofs.Common.{ℕ, ◌≡◌, ◌+◌, ◌-◌, length, true, false, sym, subst, ◌∙◌, refl, arith}
use Rattle.std.proofs.Math.Nat.{sub-zero, sub-add-eq}
use Rattle.meaning.specs.Withdrawn.{withdrawn}
use Rattle.rewrite_bytes.specs.Used.{Seekable, Found}
use Rattle.rewrite_bytes.specs.Bodies.{Replacing, Roomy}
use Rattle.rewrite_bytes.specs.declared.three.Gate.{Gate}
use Rattle.rewrite_bytes.proofs.Marking.{Turn, there, turn, part_small}
use Rattle.rewrite_bytes.proofs.Putting.{none-put, all-put, Stays, stays, seekable, seekable-next, in_net, in_takes, replacing, replaced-next}
use Rattle.rewrite_bytes.proofs.bodies.put_body.Goals as goal
use Rattle.rewrite_bytes.proofs.bodies.put_body.Goals.{After-is_withdrawn, then-is_withdrawn, else-is_withdrawn}

pub loop-init : goal.loop-init
loop-init c s = rw (sub-zero _) (none-put s.w s.room)

pub occurrence_at-o-requires : goal.occurrence_at-o-requires
occurrence_at-o-requires c = let sofar = c.loop.invariant c.requires in there sofar.rest (omega arith) sofar.ahead

module _ (c : After-is_withdrawn) (s : Roomy c.args.numbers.now c.args.place c.args.count c.args.table.now c.args.stamp (length c.args.out.now) c.args.to) where
  -- The occurrence whose turn it is.
  now : Turn c.args.numbers.now c.loop.at (c.args.count - c.loop.counter) (c.loop.invariant s).rest c.occurrence_at-o.result
  now = let sofar = c.loop.invariant s in turn sofar.rest (omega arith) sofar.ahead c.occurrence_at-o.ensures

  -- One of the four gates, and the two new nets.
  module _ (is : c.is_withdrawn.result ≡ true) where
    told : withdrawn c.occurrence_at-o.result.refers ≡ true
    told = sym c.is_withdrawn.ensures ∙ is

    abbrev seeks : Seekable c.args.table.now c.args.stamp c.loop.from
    seeks = seekable s.w (c.loop.invariant s) now told

    abbrev seeks_next : {r : ℕ} → Found seeks r → Seekable c.args.table.now c.args.stamp (r + 1)
    seeks_next one = seekable-next s.w (c.loop.invariant s) now told one

  -- An occurrence that stays.
  stays_here : c.is_withdrawn.result ≡ false → Stays s.w (c.loop.invariant s) now
  stays_here is = stays s.w (c.loop.invariant s) now (sym c.is_withdrawn.ensures ∙ is)

pub seek-first-requires : goal.seek-first-requires
seek-first-requires c = seeks (goal.at.seek-first-requires c).After-is_withdrawn c.requires c.if-is_withdrawn.true

pub overflow_add-first : goal.overflow_add-first
overflow_add-first c =
    let one = c.seek-first.ensures (seeks (goal.at.overflow_add-first c).After-is_withdrawn c.requires c.if-is_withdrawn.true) in
    omega (arith, one.low)

pub seek-second-requires : goal.seek-second-requires
seek-second-requires c =
    let at = (goal.at.seek-second-requires c).After-is_withdrawn in
    let is = c.if-is_withdrawn.true in
    seeks_next at c.requires is (c.seek-first.ensures (seeks at c.requires is))

pub gate_at-gate-requires : goal.gate_at-gate-requires
gate_at-gate-requires c =
    let s = c.requires in
    let at = (goal.at.gate_at-gate-requires c).After-is_withdrawn in
    let four = told at s c.if-is_withdrawn.true in
    (in_net s.w (c.loop.invariant s) (now at s) four, in_takes s.w (c.loop.invariant s) (now at s) four)

pub overflow_cast-first : goal.overflow_cast-first
overflow_cast-first c =
    let one = c.seek-first.ensures (seeks (goal.at.overflow_cast-first c).After-is_withdrawn c.requires c.if-is_withdrawn.true) in
    omega (arith, one.low)

pub overflow_cast-second : goal.overflow_cast-second
overflow_cast-second c =
    let at = (goal.at.overflow_cast-second c).After-is_withdrawn in
    let is = c.if-is_withdrawn.true in
    let two = c.seek-second.ensures (seeks_next at c.requires is (c.seek-first.ensures (seeks at c.requires is))) in
    omega (arith, two.low)

pub put_three-end-requires : goal.put_three-end-requires
put_three-end-requires c =
    let s = c.requires in
    let at = (goal.at.put_three-end-requires c).After-is_withdrawn in
    let is = c.if-is_withdrawn.true in
    let one = c.seek-first.ensures (seeks at s is) in
    let two = c.seek-second.ensures (seeks_next at s is one) in
    subst (λ (g : Gate). Replacing g c.seek-first.result c.seek-second.result c.loop.out c.loop.end) (sym c.gate_at-gate.ensures)
    (replacing s.w (c.loop.invariant s) (now at s) (told at s is) one two)

pub overflow_add-from : goal.overflow_add-from
overflow_add-from c =
    let at = (goal.at.overflow_add-from c).After-is_withdrawn in
    let is = c.if-is_withdrawn.true in
    let two = c.seek-second.ensures (seeks_next at c.requires is (c.seek-first.ensures (seeks at c.requires is))) in
    omega (arith, two.low)

pub offset_bounds-numbers-here : goal.offset_bounds-numbers-here
offset_bounds-numbers-here c =
    let at = (goal.at.offset_bounds-numbers-here c).After-is_withdrawn in
    omega (arith, (stays_here at c.requires c.if-is_withdrawn.false).within, (now at c.requires).read.next)

pub slice_bounds-put_list-count : goal.slice_bounds-put_list-count
slice_bounds-put_list-count c = omega (arith, (now (goal.at.slice_bounds-put_list-count c).After-is_withdrawn c.requires).read.next)

pub slice_bounds-put_list-start : goal.slice_bounds-put_list-start
slice_bounds-put_list-start c = omega (arith, (now (goal.at.slice_bounds-put_list-start c).After-is_withdrawn c.requires).read.next)

pub slice_bounds-put_list-end : goal.slice_bounds-put_list-end
slice_bounds-put_list-end c =
    omega (arith, (stays_here (goal.at.slice_bounds-put_list-end c).After-is_withdrawn c.requires c.if-is_withdrawn.false).within)

pub put_list-end-requires : goal.put_list-end-requires
put_list-end-requires c =
    let s = c.requires in
    let here = stays_here (goal.at.put_list-end-requires c).After-is_withdrawn s c.if-is_withdrawn.false in
    let part = here.part (c.occurrence_at-o.result.to - c.loop.at) c.loop.at refl refl in (
      part_small (c.occurrence_at-o.result.to - c.loop.at) c.loop.at s.w.small,
      record { fits = rw part here.room },
    )

pub loop-preserved : goal.loop-preserved
loop-preserved c s =
    let at = (goal.at.loop-preserved c).After-is_withdrawn in
    rw (sub-add-eq _ c.loop.counter 1)
    (elim c.if-is_withdrawn.branch [
      | then-is_withdrawn w ↦
          let is = w.if-is_withdrawn.true in
          let one = w.seek-first.ensures (seeks at s is) in
          let two = w.seek-second.ensures (seeks_next at s is one) in
          rw (w.from-is, w.end-is, w.out-is)
          (replaced-next s.w (c.loop.invariant s) (now at s) (told at s is) one two (rw w.gate_at-gate.ensures at w.put_three-end.ensures))
      | else-is_withdrawn w ↦
          let here = stays_here at s w.if-is_withdrawn.false in
          let part = here.part (c.occurrence_at-o.result.to - c.loop.at) c.loop.at refl refl in
          rw (w.from-is, w.end-is, w.out-is) (here.next (rw part at w.put_list-end.ensures))
    ])

pub returns : goal.returns
returns c s = all-put s.w (omega arith) (c.loop.invariant s)
