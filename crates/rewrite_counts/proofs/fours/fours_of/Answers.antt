-- A turn of the loop counts an occurrence: one of the four gates for itself, and a module by what it reaches. Assumes nothing.
use Rattle.std.proofs.Common.{sym, ◌∙◌, arith}
use Rattle.std.proofs.Math.Nat.{sub-zero, sub-add-eq}
use Rattle.image.specs.Scenes.{in_starts, module_stands, module_there}
use Rattle.image.specs.Walking.{occurrence-there, turn}
use Rattle.rewrite_counts.proofs.Walking.{none-walked, at-four, at_other, at_module, all-walked}
use Rattle.rewrite_counts.proofs.fours.fours_of.Goals as goal
use Rattle.rewrite_counts.proofs.fours.fours_of.Goals.{then-is_withdrawn, else-is_withdrawn+then-o-ge16, else-is_withdrawn+else-o-ge16}

pub bounds-starts-k : goal.bounds-starts-k
bounds-starts-k c = in_starts c.requires.scene

pub module_at-header-requires : goal.module_at-header-requires
module_at-header-requires c = module_there c.requires.scene

pub overflow_add-at : goal.overflow_add-at
overflow_add-at c = omega (arith, (c.module_at-header.ensures _ (module_stands c.requires.scene)).body.within)

pub loop-init : goal.loop-init
loop-init c s = rw (sub-zero _) (none-walked s (c.module_at-header.ensures _ (module_stands s.scene)))

pub occurrence_at-o-requires : goal.occurrence_at-o-requires
occurrence_at-o-requires c = occurrence-there (omega arith) (c.loop.invariant c.requires).ahead

-- One of the four gates.
pub overflow_add-own : goal.overflow_add-own
overflow_add-own c =
    let walk = c.loop.invariant c.requires in
    let now = turn (omega arith) walk.ahead c.occurrence_at-o.ensures in
    omega (arith, (at-four c.requires walk now (sym c.is_withdrawn.ensures ∙ c.if-is_withdrawn.true)).owning)

pub overflow_add-sum : goal.overflow_add-sum
overflow_add-sum c =
    let walk = c.loop.invariant c.requires in
    let now = turn (omega arith) walk.ahead c.occurrence_at-o.ensures in
    omega (arith, (at-four c.requires walk now (sym c.is_withdrawn.ensures ∙ c.if-is_withdrawn.true)).fits)

-- A module.
pub bounds-reached-o : goal.bounds-reached-o
bounds-reached-o c =
    let walk = c.loop.invariant c.requires in
    let now = turn (omega arith) walk.ahead c.occurrence_at-o.ensures in
    (at_module c.requires walk now (sym c.is_withdrawn.ensures ∙ c.if-is_withdrawn.false) c.if-o-ge16.true).inside

pub overflow_add-sum-then-o-ge16 : goal.overflow_add-sum-then-o-ge16
overflow_add-sum-then-o-ge16 c =
    let walk = c.loop.invariant c.requires in
    let now = turn (omega arith) walk.ahead c.occurrence_at-o.ensures in
    omega (arith, (at_module c.requires walk now (sym c.is_withdrawn.ensures ∙ c.if-is_withdrawn.false) c.if-o-ge16.true).step.fits)

pub loop-preserved : goal.loop-preserved
loop-preserved c s =
    let walk = c.loop.invariant s in
    let now = turn (omega arith) walk.ahead c.occurrence_at-o.ensures in
    rw (sub-add-eq _ c.loop.counter 1)
    (elim c.if-is_withdrawn.branch [
      | then-is_withdrawn w ↦ (at-four s walk now (sym c.is_withdrawn.ensures ∙ w.if-is_withdrawn.true)).next w.own-is w.sum-is
      | else-is_withdrawn+then-o-ge16 w ↦ (at_module s walk now (sym c.is_withdrawn.ensures ∙ w.if-is_withdrawn.false) w.if-o-ge16.true).step.next (omega (arith, w.own-is)) w.sum-is
      | else-is_withdrawn+else-o-ge16 w ↦ (at_other s walk now (sym c.is_withdrawn.ensures ∙ w.if-is_withdrawn.false) w.if-o-ge16.false).next (omega (arith, w.own-is)) (omega (arith, w.sum-is))
    ])

pub returns : goal.returns
returns c s = all-walked s (omega arith) (c.loop.invariant s)
