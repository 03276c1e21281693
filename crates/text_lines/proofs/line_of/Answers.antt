use native.Mathlib.Omega.{arith}
use mathlib.Core.Path.{sym, ◌∙◌}
use Rattle.text_lines.proofs.Walks.{counted_none, counted-end, counted-on, line-there}
use Rattle.text_lines.proofs.line_of.Goals.{then-ends_line, else-ends_line}
use Rattle.text_lines.proofs.line_of.Goals as goal

pub loop-i-init : goal.loop-i-init
loop-i-init c = (omega arith, counted_none _)

pub ends_line-requires : goal.ends_line-requires
ends_line-requires c = let near = c.nearer-stop.ensures in omega arith

pub overflow_add-above : goal.overflow_add-above
overflow_add-above c = let k = c.loop-i.invariant.1.fewer in omega arith

pub overflow_add-left : goal.overflow_add-left
overflow_add-left c = let k = c.loop-i.invariant.1.within in omega arith

pub loop-i-preserved : goal.loop-i-preserved
loop-i-preserved c =
    elim c.if-ends_line.branch [
      | then-ends_line w ↦ (omega arith, rw (w.above-is, w.left-is) (counted-end _ _ _ _ (sym c.ends_line.ensures ∙ w.if-ends_line.true) c.loop-i.invariant.1))
      | else-ends_line w ↦ (omega arith, rw (w.above-is, w.left-is) (counted-on _ _ _ _ (sym c.ends_line.ensures ∙ w.if-ends_line.false) c.loop-i.invariant.1))
    ]

pub line_end-end-requires : goal.line_end-end-requires
line_end-end-requires c = let near = c.nearer-stop.ensures in omega arith

pub overflow_sub-result : goal.overflow_sub-result
overflow_sub-result c = let k = c.loop-i.invariant in let w = k.1.within in omega arith

pub returns : goal.returns
returns c =
    line-there _ _ _ c.loop-i.i _ _ _ c.nearer-stop.ensures (omega arith) c.loop-i.invariant.1 c.line_end-end.ensures
