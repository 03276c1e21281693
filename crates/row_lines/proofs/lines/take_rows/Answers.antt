-- A row that is found is taken; the loop ends where all are, where another would not fit, and where none is found.
use Rattle.std.proofs.Common.{◌≡◌, ℕ, drop, sym, ap, ◌∙◌, subst, None, Ok, arith, length-drop}
use borrow.Author.Rules.{part_to_end}
use Rattle.row_lines.specs.Lines.{found_in}
use Rattle.row_lines.specs.Blocks.{block_of, Takes}
use Rattle.row_lines.proofs.Rows.{found-row}
use Rattle.row_lines.proofs.Taking.{taking-begin, taking-row, taking-end, taking-bad, taking-all, taking-full}
use Rattle.row_lines.proofs.lines.take_rows.Goals as goal

pub loop-rows-init : goal.loop-rows-init
loop-rows-init c = taking-begin _ _ _ _

pub returns-then-values-given : goal.returns-then-values-given
returns-then-values-given c = rw c.of.ensures (taking-full c.loop-rows.invariant c.if-values-given.true)

pub overflow_add-end : goal.overflow_add-end
overflow_add-end c =
    let s = c.args in
    let next = c.loop-rows.next in
    let here = ap (found_in s.inputs) (sym (part_to_end s.text.now next)) ∙ sym c.find_row.ensures ∙ c.in-Ok-Some.is ∙ ap Ok c.in-Ok-Some.field-0-is in
    let row = found-row s.inputs (drop next s.text.now) here in
    omega (arith, c.loop-rows.invariant.inside, row.inside, row.within, length-drop next s.text.now)

pub slice_bounds-put_at-end : goal.slice_bounds-put_at-end
slice_bounds-put_at-end c =
    let s = c.args in
    let next = c.loop-rows.next in
    let here = ap (found_in s.inputs) (sym (part_to_end s.text.now next)) ∙ sym c.find_row.ensures ∙ c.in-Ok-Some.is ∙ ap Ok c.in-Ok-Some.field-0-is in
    let row = found-row s.inputs (drop next s.text.now) here in
    omega (arith, c.loop-rows.invariant.inside, row.inside, row.within, length-drop next s.text.now)

pub overflow_add-next : goal.overflow_add-next
overflow_add-next c =
    let s = c.args in
    let next = c.loop-rows.next in
    let here = ap (found_in s.inputs) (sym (part_to_end s.text.now next)) ∙ sym c.find_row.ensures ∙ c.in-Ok-Some.is ∙ ap Ok c.in-Ok-Some.field-0-is in
    let row = found-row s.inputs (drop next s.text.now) here in
    omega (arith, c.loop-rows.invariant.inside, row.within, length-drop next s.text.now)

pub loop-rows-preserved : goal.loop-rows-preserved
loop-rows-preserved c =
    let s = c.args in
    let next = c.loop-rows.next in
    let here = ap (found_in s.inputs) (sym (part_to_end s.text.now next)) ∙ sym c.find_row.ensures ∙ c.in-Ok-Some.is ∙ ap Ok c.in-Ok-Some.field-0-is in
    taking-row c.loop-rows.invariant c.loop-rows-test.true c.if-values-given.false (found-row s.inputs (drop next s.text.now) here) c.put_at-given.ensures

pub returns-in-Ok-None : goal.returns-in-Ok-None
returns-in-Ok-None c =
    let s = c.args in
    let here = ap (found_in s.inputs) (sym (part_to_end s.text.now c.loop-rows.next)) ∙ sym c.find_row.ensures ∙ c.in-Ok-None.is ∙ ap Ok c.in-Ok-None.field-0-is in
    rw c.of-in-Ok-None.ensures (taking-end c.loop-rows.invariant c.loop-rows-test.true here)

pub returns-in-Err : goal.returns-in-Err
returns-in-Err c =
    let s = c.args in
    let here = ap (found_in s.inputs) (sym (part_to_end s.text.now c.loop-rows.next)) ∙ sym c.find_row.ensures ∙ c.in-Err.is in
    rw c.of-in-Err.ensures (taking-bad c.loop-rows.invariant c.loop-rows-test.true c.if-values-given.false here)

pub returns : goal.returns
returns c =
    let s = c.args in
    let l = c.loop-rows in
    let all : l.rows ≡ s.most = omega arith in
    rw c.of-2.ensures
    (subst (λ (n : ℕ). Takes s.most s.inputs s.text.now s.values.now l.values (block_of n l.given l.next None)) all
    (taking-all l.invariant c.loop-rows-test.false))
