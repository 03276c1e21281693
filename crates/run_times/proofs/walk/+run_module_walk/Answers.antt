-- `run_module` and `walk` meet their contracts, in each of the two lists as `run_walk` does in its one: a walk's turn is `turn-gate`,
-- `turn_module`, or `turn-idle` where no net is driven; at its end the module has run. Assumes nothing.
use Rattle.std.proofs.Common.{◌≡◌, ◌<◌, ◌+◌, ◌-◌, arith, sym, ◌∙◌}
use Rattle.meaning.specs.Family.{delay_in}
use Rattle.image.specs.Scenes.{module_stands, module_there}
use Rattle.image.specs.Walking.{occurrence-there}
use Rattle.gates.specs.Gates.{module_of-kind}
use Rattle.run_walk.proofs.Progress.{walking_begins, finish}
use Rattle.run_walk.proofs.Turns.{here, own, enter}
use Rattle.run_walk.proofs.Turns as turns
use Rattle.run_walk.proofs.ModuleTurns as modules
use Rattle.run_times.specs.Times.{one_each, times_work}
use Rattle.run_times.proofs.walk.+run_module_walk.Goals.{walk-in-Gate, walk-in-Module+then-o-gt0, walk-in-Module+else-o-gt0}
use Rattle.run_times.proofs.walk.+run_module_walk.Goals as goal

-- `run_module`. The header that was read is the module's, so its occurrences can be walked.
pub run_module-walk-requires : goal.run_module-walk-requires
run_module-walk-requires t c = (
  omega (arith, c.decreases),
  (
    record { runnable = c.requires.runnable; header = c.module.ensures c.requires.runnable.scene.m (module_stands c.requires.runnable.scene) },
    record {
      runnable = c.requires.runnable_2;
      header = c.module.ensures c.requires.runnable_2.scene.m (module_stands c.requires.runnable_2.scene);
    },
  ),
)

pub run_module-returns : goal.run_module-returns
run_module-returns t c =
    record {
      unit = λ s. c.walk.ensures.unit (record { runnable = s; header = c.module.ensures s.scene.m (module_stands s.scene) });
      family = λ s. c.walk.ensures.family (record { runnable = s; header = c.module.ensures s.scene.m (module_stands s.scene) });
    }

-- `walk`.
pub walk-loop-init : goal.walk-loop-init
walk-loop-init t c =
    let all : c.args.header.count ≡ c.args.header.count - 0 = omega arith in
    rw (sym all) (
      walking_begins (times_work one_each) c.args.units.now,
      walking_begins (times_work (delay_in c.args.family.delays)) c.args.others.now,
    )

pub walk-occurrence_at-o-requires : goal.walk-occurrence_at-o-requires
walk-occurrence_at-o-requires t c =
    occurrence-there (omega (arith, c.loop-test.true)) (c.loop.invariant.0 c.requires.walkable.runnable (enter c.requires.walkable)).ahead

pub walk-overflow_add-filled : goal.walk-overflow_add-filled
walk-overflow_add-filled t c =
    let now = own c.requires.walkable c.loop.invariant.0 (omega (arith, c.loop-test.true)) c.occurrence_at-o.ensures in
    omega (arith, now.turn.fits, turns.enough now, now.progress.size)

-- At a gate. The slot that it fills is one of either list.
pub walk-at_gate-times-requires : goal.walk-at_gate-times-requires
walk-at_gate-times-requires t c =
    record {
      readable = turns.turn-readable (own c.requires.walkable c.loop.invariant.0 (omega (arith, c.loop-test.true)) c.occurrence_at-o.ensures);
      readable_2 = turns.turn-readable (own c.requires.walkable_2 c.loop.invariant.1 (omega (arith, c.loop-test.true)) c.occurrence_at-o.ensures);
    }

pub walk-bounds-units-here : goal.walk-bounds-units-here
walk-bounds-units-here t c =
    turns.gate-room (own c.requires.walkable c.loop.invariant.0 (omega (arith, c.loop-test.true)) c.occurrence_at-o.ensures)
    (sym c.kind_of.ensures ∙ c.in-Gate.is)

pub walk-bounds-others-here : goal.walk-bounds-others-here
walk-bounds-others-here t c =
    turns.gate-room (own c.requires.walkable_2 c.loop.invariant.1 (omega (arith, c.loop-test.true)) c.occurrence_at-o.ensures)
    (sym c.kind_of.ensures ∙ c.in-Gate.is)

pub walk-offset_bounds-units-here : goal.walk-offset_bounds-units-here
walk-offset_bounds-units-here t c =
    let now = own c.requires.walkable c.loop.invariant.0 (omega (arith, c.loop-test.true)) c.occurrence_at-o.ensures in
    omega (arith, turns.gate-room now (sym c.kind_of.ensures ∙ c.in-Gate.is), now.progress.size)

pub walk-offset_bounds-others-here : goal.walk-offset_bounds-others-here
walk-offset_bounds-others-here t c =
    let now = own c.requires.walkable_2 c.loop.invariant.1 (omega (arith, c.loop-test.true)) c.occurrence_at-o.ensures in
    omega (arith, turns.gate-room now (sym c.kind_of.ensures ∙ c.in-Gate.is), now.progress.size)

-- At a module. Its parts of the lists begin within them.
pub walk-overflow_sub-j : goal.walk-overflow_sub-j
walk-overflow_sub-j t c = module_of-kind _ (sym c.kind_of.ensures ∙ c.in-Module.is)

pub walk-module-sub-requires-clause-starts_in_bounds : goal.walk-module-sub-requires-clause-starts_in_bounds
walk-module-sub-requires-clause-starts_in_bounds t c =
    modules.target-listed (own c.requires.walkable c.loop.invariant.0 (omega (arith, c.loop-test.true)) c.occurrence_at-o.ensures)
    (sym c.kind_of.ensures ∙ c.in-Module.is)

pub walk-module-sub-requires-clause-module_there : goal.walk-module-sub-requires-clause-module_there
walk-module-sub-requires-clause-module_there t c =
    module_there
    (modules.sub (own c.requires.walkable c.loop.invariant.0 (omega (arith, c.loop-test.true)) c.occurrence_at-o.ensures)
    (sym c.kind_of.ensures ∙ c.in-Module.is))

pub walk-copy-requires : goal.walk-copy-requires
walk-copy-requires t c =
    modules.passes (own c.requires.walkable c.loop.invariant.0 (omega (arith, c.loop-test.true)) c.occurrence_at-o.ensures)
    (sym c.kind_of.ensures ∙ c.in-Module.is)

pub walk-copy-requires-then-o-gt0 : goal.walk-copy-requires-then-o-gt0
walk-copy-requires-then-o-gt0 t c =
    modules.passes (own c.requires.walkable_2 c.loop.invariant.1 (omega (arith, c.loop-test.true)) c.occurrence_at-o.ensures)
    (sym c.kind_of.ensures ∙ c.in-Module.is)

pub walk-run_module-requires : goal.walk-run_module-requires
walk-run_module-requires t c =
    let one = own c.requires.walkable c.loop.invariant.0 (omega (arith, c.loop-test.true)) c.occurrence_at-o.ensures in
    let other = own c.requires.walkable_2 c.loop.invariant.1 (omega (arith, c.loop-test.true)) c.occurrence_at-o.ensures in
    let kind = sym c.kind_of.ensures ∙ c.in-Module.is in (
      omega (arith, modules.falls one kind, c.decreases),
      (modules.calls one kind (c.copy.ensures 0), modules.calls other kind (c.copy-then-o-gt0.ensures 0)),
    )

pub walk-copy-requires-then-o-gt0-2 : goal.walk-copy-requires-then-o-gt0-2
walk-copy-requires-then-o-gt0-2 t c =
    let now = own c.requires.walkable c.loop.invariant.0 (omega (arith, c.loop-test.true)) c.occurrence_at-o.ensures in
    let kind = sym c.kind_of.ensures ∙ c.in-Module.is in
    modules.fetches now kind (c.copy.ensures 0) c.run_module.new.units c.run_module.auto.units
    (c.module-sub.ensures (modules.sub now kind).m (module_stands (modules.sub now kind)))

pub walk-copy-requires-then-o-gt0-3 : goal.walk-copy-requires-then-o-gt0-3
walk-copy-requires-then-o-gt0-3 t c =
    let now = own c.requires.walkable_2 c.loop.invariant.1 (omega (arith, c.loop-test.true)) c.occurrence_at-o.ensures in
    let kind = sym c.kind_of.ensures ∙ c.in-Module.is in
    modules.fetches now kind (c.copy-then-o-gt0.ensures 0) c.run_module.new.others c.run_module.auto.others
    (c.module-sub.ensures (modules.sub now kind).m (module_stands (modules.sub now kind)))

-- What the turn left of the count is what the loop still has to go.
pub walk-loop-preserved : goal.walk-loop-preserved
walk-loop-preserved t c =
    let some : 0 < c.args.header.count - c.loop.counter = omega (arith, c.loop-test.true) in
    let left : c.args.header.count - c.loop.counter - 1 ≡ c.args.header.count - (c.loop.counter + 1) = omega arith in
    rw (sym left)
    (elim c.match-kind_of.branch [
      | walk-in-Gate w ↦
          let kind = sym c.kind_of.ensures ∙ w.in-Gate.is in (
            λ s ahead.
                rw w.units-is
                (turns.turn-gate (here c.loop.invariant.0 some c.occurrence_at-o.ensures s ahead) kind w.at_gate-times.ensures.unit),
            λ s ahead.
                rw w.others-is
                (turns.turn-gate (here c.loop.invariant.1 some c.occurrence_at-o.ensures s ahead) kind w.at_gate-times.ensures.family),
          )
      | walk-in-Module+then-o-gt0 w ↦
          let kind = sym c.kind_of.ensures ∙ w.in-Module.is in (
            λ s ahead.
                let now = here c.loop.invariant.0 some c.occurrence_at-o.ensures s ahead in
                rw w.units-is
                (modules.turn_module now kind (w.copy.ensures 0) w.run_module.new.units w.run_module.auto.units
                (w.module-sub.ensures (modules.sub now kind).m (module_stands (modules.sub now kind)))
                (w.run_module.ensures.unit (modules.calls now kind (w.copy.ensures 0)))
                (w.copy-then-o-gt0-2.ensures 0)),
            λ s ahead.
                let now = here c.loop.invariant.1 some c.occurrence_at-o.ensures s ahead in
                rw w.others-is
                (modules.turn_module now kind (w.copy-then-o-gt0.ensures 0) w.run_module.new.others w.run_module.auto.others
                (w.module-sub.ensures (modules.sub now kind).m (module_stands (modules.sub now kind)))
                (w.run_module.ensures.family (modules.calls now kind (w.copy-then-o-gt0.ensures 0)))
                (w.copy-then-o-gt0-3.ensures 0)),
          )
      | walk-in-Module+else-o-gt0 w ↦ (
        λ s ahead.
            rw w.units-is
            (turns.turn-idle (here c.loop.invariant.0 some c.occurrence_at-o.ensures s ahead) (omega (arith, w.if-o-gt0.false))),
        λ s ahead.
            rw w.others-is
            (turns.turn-idle (here c.loop.invariant.1 some c.occurrence_at-o.ensures s ahead) (omega (arith, w.if-o-gt0.false))),
      )
    ])

pub walk-returns : goal.walk-returns
walk-returns t c =
    record {
      unit = λ s. finish (c.loop.invariant.0 s.runnable (enter s)) (omega (arith, c.loop-test.false));
      family = λ s. finish (c.loop.invariant.1 s.runnable (enter s)) (omega (arith, c.loop-test.false));
    }
