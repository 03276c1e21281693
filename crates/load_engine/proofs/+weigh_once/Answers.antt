-- What `load_engine::weigh_once` meets. What is kept is the answer; else a turn of the loop counts an occurrence and adds its loads, at a
-- gate or at a module, and at its end the module's loads and its tally are kept. Assumes nothing.
use mathlib.Core.Path.{refl, sym, ◌∙◌}
use Rattle.std.proofs.Math.Nat.{sub-zero, sub-add-eq}
use native.Mathlib.Omega.{arith}
use lib.ListN.{length}
use Rattle.gates.specs.Gates.{gate-told, module_told, module_of-kind}
use Rattle.image.specs.Scenes.{in_starts, in_nets, module_stands, module_there}
use Rattle.image.specs.Walking.{occurrence-there, turn}
use Rattle.tally_engine.proofs.Counting as counting
use Rattle.tally_engine.proofs.Counting.{none-counted, all-counted}
use Rattle.load_engine.proofs.Loading.{frame-fits, none-loaded, kept-behind, all-loaded}
use Rattle.load_engine.proofs.GateLoads.{at-gate}
use Rattle.load_engine.proofs.ModuleLoads as loading
use Rattle.load_engine.proofs.KeptLoads.{work-moved, looked_up}
use Rattle.load_engine.proofs.MoreLoads.{keepable, now-kept}
use Rattle.load_engine.proofs.KnownRows.{known-row, rows_fit, row-known}
use Rattle.load_engine.proofs.+weigh_once.Goals as goal
use Rattle.load_engine.proofs.+weigh_once.Goals.{in-Gate, in-Module}

-- What is kept is the answer.
pub row_at-requires : goal.row_at-requires
row_at-requires t c =
    omega (arith, (known-row c.args.known.now c.args.k c.requires.tallying.kept c.kept_at-kept.ensures c.if-kept-gt0.true).0)

pub returns-then-kept-gt0 : goal.returns-then-kept-gt0
returns-then-kept-gt0 t c = record {
  load = λ w. looked_up w c.kept_at-kept.ensures c.if-kept-gt0.true;
  tally = λ s.
      record {
        is = c.row_at.ensures ∙ (known-row c.args.known.now c.args.k s.kept c.kept_at-kept.ensures c.if-kept-gt0.true).1;
        kept = s.kept;
      };
}

pub bounds-image-k : goal.bounds-image-k
bounds-image-k t c = in_nets c.requires.workable.loadable.scene

pub clear-requires : goal.clear-requires
clear-requires t c = omega (arith, frame-fits c.requires.workable.loadable)

pub bounds-image-k-2 : goal.bounds-image-k-2
bounds-image-k-2 t c = in_starts c.requires.workable.loadable.scene

pub module_at-header-requires : goal.module_at-header-requires
module_at-header-requires t c = module_there c.requires.workable.loadable.scene

pub overflow_add-at : goal.overflow_add-at
overflow_add-at t c =
    omega (arith, (c.module_at-header.ensures _ (module_stands c.requires.workable.loadable.scene)).body.within)

pub loop-init : goal.loop-init
loop-init t c = (
  λ w.
      let s = w.loadable in
      (rw (sub-zero _) (none-loaded s _ c.clear.ensures (c.module_at-header.ensures _ (module_stands s.scene)) refl), w.kept),
  λ s. (rw (sub-zero _) (none-counted s.countable (c.module_at-header.ensures _ (module_stands s.countable.scene)) c.nothing-tally.ensures), s.kept),
)

pub occurrence_at-o-requires : goal.occurrence_at-o-requires
occurrence_at-o-requires t c =
    let s = c.requires.tallying in
    occurrence-there (omega arith) (c.loop.invariant.1 s).0.ahead

-- A gate counts for itself, and each argument place adds 1.
pub with_gate-tally-requires-clause-kind_bound : goal.with_gate-tally-requires-clause-kind_bound
with_gate-tally-requires-clause-kind_bound t c =
    let s = c.requires.tallying in
    let sofar = (c.loop.invariant.1 s).0 in
    let now = turn (omega arith) sofar.ahead c.occurrence_at-o.ensures in
    (counting.at-gate s.countable sofar now (gate-told _ (sym c.kind_of.ensures ∙ c.in-Gate.is))).below

pub with_gate-tally-requires-clause-addable : goal.with_gate-tally-requires-clause-addable
with_gate-tally-requires-clause-addable t c =
    let s = c.requires.tallying in
    let sofar = (c.loop.invariant.1 s).0 in
    let now = turn (omega arith) sofar.ahead c.occurrence_at-o.ensures in
    (counting.at-gate s.countable sofar now (gate-told _ (sym c.kind_of.ensures ∙ c.in-Gate.is))).step.addable

pub add_loads-requires : goal.add_loads-requires
add_loads-requires t c =
    let s = c.requires.workable in
    let w = work-moved {entries' = length c.clear.new.scratch} s (omega (arith, s.loadable.room, c.clear.auto.scratch)) in
    let sofar = (c.loop.invariant.0 w).0 in
    let now = turn (omega arith) sofar.ahead c.occurrence_at-o.ensures in
    (at-gate w.loadable sofar now (gate-told _ (sym c.kind_of.ensures ∙ c.in-Gate.is)) _).placed

-- At a module the part behind the frame is lent on; its tally is added, and each argument place adds the load of its input, and each
-- driven net the load of its output.
pub overflow_sub-j : goal.overflow_sub-j
overflow_sub-j t c = module_of-kind _ (sym c.kind_of.ensures ∙ c.in-Module.is)

pub slice_bounds-weigh_once-start : goal.slice_bounds-weigh_once-start
slice_bounds-weigh_once-start t c =
    let s = c.requires.workable in
    let w = work-moved {entries' = length c.clear.new.scratch} s (omega (arith, s.loadable.room, c.clear.auto.scratch)) in
    omega (arith, frame-fits w.loadable, (c.loop.invariant.0 w).0.long)

pub weigh_once-inner-requires : goal.weigh_once-inner-requires
weigh_once-inner-requires t c =
    let s₀ = c.requires.workable in
    let w = work-moved {entries' = length c.clear.new.scratch} s₀ (omega (arith, s₀.loadable.room, c.clear.auto.scratch)) in
    let s = c.requires.tallying in
    let loaded = c.loop.invariant.0 w in
    let counted = c.loop.invariant.1 s in
    let now = turn (omega arith) loaded.0.ahead c.occurrence_at-o.ensures in
    let is_module = module_told _ (sym c.kind_of.ensures ∙ c.in-Module.is) in (
      omega (arith, c.decreases, loading.after w.loadable loaded.0 now is_module, loading.listed w.loadable loaded.0 now is_module),
      (
        loading.workable w.loadable loaded.0 now is_module loaded.1,
        counting.tallying s.countable counted.0 (turn (omega arith) counted.0.ahead c.occurrence_at-o.ensures) is_module counted.1,
      ),
    )

pub with_tally-tally-requires : goal.with_tally-tally-requires
with_tally-tally-requires t c =
    let s = c.requires.tallying in
    let sofar = c.loop.invariant.1 s in
    let now = turn (omega arith) sofar.0.ahead c.occurrence_at-o.ensures in
    let is_module = module_told _ (sym c.kind_of.ensures ∙ c.in-Module.is) in
    let done = c.weigh_once-inner.ensures.tally (counting.tallying s.countable sofar.0 now is_module sofar.1) in
    ((counting.at_module s.countable sofar.0 now is_module).step done.is).addable

-- Its loads stand where its numbers do.
pub bounds-image-j : goal.bounds-image-j
bounds-image-j t c =
    let s = c.requires.workable in
    let w = work-moved {entries' = length c.clear.new.scratch} s (omega (arith, s.loadable.room, c.clear.auto.scratch)) in
    let sofar = (c.loop.invariant.0 w).0 in
    let now = turn (omega arith) sofar.ahead c.occurrence_at-o.ensures in
    loading.listed w.loadable sofar now (module_told _ (sym c.kind_of.ensures ∙ c.in-Module.is))

pub add_inside-requires : goal.add_inside-requires
add_inside-requires t c =
    let s = c.requires.workable in
    let w = work-moved {entries' = length c.clear.new.scratch} s (omega (arith, s.loadable.room, c.clear.auto.scratch)) in
    let sofar = c.loop.invariant.0 w in
    let now = turn (omega arith) sofar.0.ahead c.occurrence_at-o.ensures in
    let is_module = module_told _ (sym c.kind_of.ensures ∙ c.in-Module.is) in
    let done = c.weigh_once-inner.ensures.load (loading.workable w.loadable sofar.0 now is_module sofar.1) in
    (loading.at_module w.loadable sofar.0 now is_module _ done c.weigh_once-inner.auto.scratch c.larger-most.ensures).placed

pub loop-preserved : goal.loop-preserved
loop-preserved t c =
    rw (sub-add-eq _ c.loop.counter 1)
    (elim c.match-kind_of.branch [
      | in-Gate b ↦
          let gate = gate-told _ (sym c.kind_of.ensures ∙ b.in-Gate.is) in
          rw (b.most-is, b.tally-is, b.scratch-is, b.loads-is, b.rows-is, b.known-is) (
            λ w.
                let sofar = c.loop.invariant.0 w in
                let now = turn (omega arith) sofar.0.ahead c.occurrence_at-o.ensures in
                ((at-gate w.loadable sofar.0 now gate _).next b.add_loads.auto.scratch b.add_loads.ensures, sofar.1),
            λ s.
                let sofar = c.loop.invariant.1 s in
                let now = turn (omega arith) sofar.0.ahead c.occurrence_at-o.ensures in
                ((counting.at-gate s.countable sofar.0 now gate).step.next b.with_gate-tally.ensures, sofar.1),
          )
      | in-Module b ↦
          let is_module = module_told _ (sym c.kind_of.ensures ∙ b.in-Module.is) in
          rw (b.most-is, b.tally-is, b.scratch-is, b.loads-is, b.rows-is, b.known-is) (
            λ w.
                let sofar = c.loop.invariant.0 w in
                let now = turn (omega arith) sofar.0.ahead c.occurrence_at-o.ensures in
                let done = b.weigh_once-inner.ensures.load (loading.workable w.loadable sofar.0 now is_module sofar.1) in (
                  (loading.at_module w.loadable sofar.0 now is_module _ done b.weigh_once-inner.auto.scratch b.larger-most.ensures).next
                      b.add_inside.auto.scratch b.add_inside.ensures,
                  done.kept,
                ),
            λ s.
                let sofar = c.loop.invariant.1 s in
                let now = turn (omega arith) sofar.0.ahead c.occurrence_at-o.ensures in
                let done = b.weigh_once-inner.ensures.tally (counting.tallying s.countable sofar.0 now is_module sofar.1) in
                (((counting.at_module s.countable sofar.0 now is_module).step done.is).next b.with_tally-tally.ensures, done.kept),
          )
    ])

-- With no occurrence left the loads of the inputs and outputs and the tally are kept.
pub largest-requires : goal.largest-requires
largest-requires t c =
    let s = c.requires.workable in
    let w = work-moved {entries' = length c.clear.new.scratch} s (omega (arith, s.loadable.room, c.clear.auto.scratch)) in
    omega (arith, frame-fits w.loadable, (c.loop.invariant.0 w).0.long)

pub keep-requires : goal.keep-requires
keep-requires t c =
    let s = c.requires.workable in
    let w = work-moved {entries' = length c.clear.new.scratch} s (omega (arith, s.loadable.room, c.clear.auto.scratch)) in
    let sofar = c.loop.invariant.0 w in
    let all =
    all-loaded w.loadable _ (omega arith) sofar.0 (kept-behind w.loadable _ c.clear.ensures) c.largest.ensures
    c.larger-load.ensures
    in
    keepable w.loadable sofar.1 all sofar.0.long (c.module_at-header.ensures _ (module_stands w.loadable.scene))

pub write_row-requires : goal.write_row-requires
write_row-requires t c =
    omega (arith, rows_fit c.loop.known (c.loop.invariant.1 c.requires.tallying).1 c.keep.auto.known)

pub shape_of-scratch : goal.shape_of-scratch
shape_of-scratch t c =
    let s = c.requires.workable in
    let w = work-moved {entries' = length c.clear.new.scratch} s (omega (arith, s.loadable.room, c.clear.auto.scratch)) in
    (c.loop.invariant.0 w).0.long ∙ c.clear.auto.scratch

pub returns : goal.returns
returns t c = record {
  load = λ w₀.
      let w = work-moved {entries' = length c.clear.new.scratch} w₀ (omega (arith, w₀.loadable.room, c.clear.auto.scratch)) in
      let sofar = c.loop.invariant.0 w in
      let all =
      all-loaded w.loadable _ (omega arith) sofar.0 (kept-behind w.loadable _ c.clear.ensures) c.largest.ensures
      c.larger-load.ensures
      in
      now-kept w.loadable sofar.1 all sofar.0.long (c.module_at-header.ensures _ (module_stands w.loadable.scene))
      c.keep.ensures c.keep.auto.loads;
  tally = λ s.
      let sofar = c.loop.invariant.1 s in
      let all = all-counted s.countable (omega arith) sofar.0 in
      record {
        is = all;
        kept = row-known c.loop.known _ sofar.1 c.keep.ensures.largest c.write_row.ensures all c.write_row.auto.rows;
      };
}
