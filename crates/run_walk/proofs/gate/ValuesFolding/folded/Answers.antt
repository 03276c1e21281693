-- `folded` meets its contract, of values. Assumes nothing.
use Rattle.std.proofs.Common.{◌≡◌, refl, ℕ, List, get_or, map, sym, ap, ◌∙◌, arith}
use Rattle.meaning.specs.Values.{Val, known, value, code}
use Rattle.gates.specs.ThreeValues.{is-small, stands_for, code-of-value}
use Rattle.gates.specs.Folds.{neutral, step, fold_on, folded}
use Rattle.gates.specs.Folding.{neutral-both}
use Rattle.image.specs.Reading.{values-end}
use Rattle.run_walk.proofs.Reading.{going_start, going-slot, going_more, going-all}
use Rattle.run_walk.proofs.gate.ValuesFolding.folded.Goals as goal

-- No arguments.
pub returns-then-to-from : goal.returns-then-to-from
unfolding folded
returns-then-to-from c =
    let a = c.args in
    let none : a.from ≡ a.to = omega (arith, c.requires.ordered, c.if-to-from.true) in
    c.start.ensures
    ∙ ap (λ (xs : List ℕ). code (folded a.fold (map value xs))) (sym (values-end 0 a.image.now a.from a.to 0 a.scratch.now none))

-- The first slot is one of the scratch.
pub bounds-scratch-entry : goal.bounds-scratch-entry
bounds-scratch-entry c =
    omega (arith, c.requires.slots c.args.from (omega arith) (omega (arith, c.if-to-from.false)), c.entry.ensures)

pub loop-i-init : goal.loop-i-init
unfolding folded
loop-i-init c =
    let a = c.args in
    let scratch = a.scratch.now in
    let at : ℕ → Val = λ slot. value (get_or scratch slot 0) in
    let first = at c.entry.result in (
      is-small first c.coded-v.ensures,
      going_more
          (going_start 0 a.image.now a.from a.to scratch {rest = λ xs. fold_on a.fold (known (neutral a.fold)) (map value xs)}
          c.requires.ordered (λ xs. refl)) (omega (arith, c.if-to-from.false)) c.requires.inside
          (λ xs.
          ap (λ (u : Val). fold_on a.fold u (map value xs))
          ((neutral-both a.fold _).0 ∙ sym (stands_for first c.coded-v.ensures ∙ ap at c.entry.ensures))),
    )

-- The slot that was read is one of the scratch.
pub bounds-scratch-entry-in-loop-i : goal.bounds-scratch-entry-in-loop-i
bounds-scratch-entry-in-loop-i c = going-slot c.loop-i.invariant.1 c.requires c.loop-i-test.true c.entry-in-loop-i.ensures

pub loop-i-preserved : goal.loop-i-preserved
loop-i-preserved c =
    let fold = c.args.fold in
    let so_far = value c.loop-i.v in
    let scratch = c.args.scratch.now in
    let read = c.entry-in-loop-i in
    let found = step fold so_far (value (get_or scratch read.result 0)) in (
      is-small found c.step-v.ensures,
      going_more c.loop-i.invariant.1 c.loop-i-test.true c.requires.inside
          (λ xs.
          ap (λ (u : Val). fold_on fold u (map value xs))
          (sym (stands_for found c.step-v.ensures ∙ ap (λ (slot : ℕ). step fold so_far (value (get_or scratch slot 0))) read.ensures))),
    )

pub returns : goal.returns
unfolding folded
returns c = sym (code-of-value _ c.loop-i.invariant.0) ∙ ap code (going-all c.loop-i.invariant.1 c.loop-i-test.false)
