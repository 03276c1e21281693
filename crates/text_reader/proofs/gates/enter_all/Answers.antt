use native.Mathlib.Omega.{arith}
use Rattle.text_reader.specs.Gating.{gate_starts, starts_order, starts_within, bytes-long, cut-gate, gating_first, gating_need, gating_next, gating_last}
use Rattle.text_reader.proofs.gates.enter_all.Goals as goal

pub loop-g-init : goal.loop-g-init
loop-g-init c = gating_first _ c.requires.blank

pub offset_bounds-starts-g : goal.offset_bounds-starts-g
offset_bounds-starts-g c = omega arith

pub bounds-starts-g : goal.bounds-starts-g
bounds-starts-g c = omega arith

pub overflow_add-to : goal.overflow_add-to
overflow_add-to c = omega arith

pub offset_bounds-starts-g-in-loop-g : goal.offset_bounds-starts-g-in-loop-g
offset_bounds-starts-g-in-loop-g c = omega arith

pub bounds-starts-g-in-loop-g : goal.bounds-starts-g-in-loop-g
bounds-starts-g-in-loop-g c = omega arith

pub slice_bounds-number-count : goal.slice_bounds-number-count
unfolding gate_starts
slice_bounds-number-count c = starts_order c.loop-g.g (omega arith)

pub slice_bounds-number-start : goal.slice_bounds-number-start
unfolding gate_starts
slice_bounds-number-start c = starts_order c.loop-g.g (omega arith)

pub slice_bounds-number-end : goal.slice_bounds-number-end
unfolding gate_starts
slice_bounds-number-end c = let w : _ = starts_within c.loop-g.g (omega arith) in let l : _ = bytes-long c.args.names.now c.requires.names_value in omega (arith, w, l)

pub number-given-requires : goal.number-given-requires
unfolding gate_starts
number-given-requires c =
    gating_need _ _ _ c.loop-g.g _ c.requires.blank (omega arith) (cut-gate c.args.names.now c.loop-g.g c.requires.names_value) c.loop-g.invariant

pub loop-g-smaller : goal.loop-g-smaller
loop-g-smaller c = omega arith

pub loop-g-preserved : goal.loop-g-preserved
unfolding gate_starts
loop-g-preserved c =
    gating_next _ _ _ c.loop-g.g _ _ _ _ (omega arith) (cut-gate c.args.names.now c.loop-g.g c.requires.names_value) c.number-given.auto.tree c.number-given.ensures c.loop-g.invariant

pub shape_of-tree : goal.shape_of-tree
shape_of-tree c = c.loop-g.invariant.same

pub returns : goal.returns
returns c = gating_last _ _ _ c.loop-g.g (omega arith) c.loop-g.invariant
