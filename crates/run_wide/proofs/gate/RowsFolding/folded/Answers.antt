-- `folded` meets its contract, of entries of rows. Assumes nothing.
use Rattle.std.proofs.Common.{ℕ, List, [], get_or, sym, ap, ◌∙◌}
use Rattle.lanes.specs.Entries.{step_of}
use Rattle.run_wide.specs.Wide.{rows_on, rows_fold}
use Rattle.run_walk.proofs.Reading.{going_start, going-slot, going_more, going-all}
use Rattle.run_wide.proofs.gate.RowsFolding.folded.Goals as goal

pub loop-i-init : goal.loop-i-init
unfolding rows_fold
loop-i-init c =
    let a = c.args in
    going_start [] a.image.now a.from a.to a.scratch.now c.requires.ordered (λ xs. ap (λ (u : List ℕ). rows_on a.fold u xs) c.start-v.ensures)

-- The slot that was read is one of the scratch.
pub bounds-scratch-entry : goal.bounds-scratch-entry
bounds-scratch-entry c = going-slot c.loop-i.invariant c.requires c.loop-i-test.true c.entry.ensures

pub loop-i-preserved : goal.loop-i-preserved
loop-i-preserved c =
    let fold = c.args.fold in
    let scratch = c.args.scratch.now in
    going_more c.loop-i.invariant c.loop-i-test.true c.requires.inside
    (λ xs.
    ap (λ (u : List ℕ). rows_on fold u xs)
    (sym (c.step-next.ensures ∙ ap (λ (slot : ℕ). step_of fold c.loop-i.v (get_or scratch slot [])) c.entry.ensures)))

pub returns : goal.returns
returns c = going-all c.loop-i.invariant c.loop-i-test.false
