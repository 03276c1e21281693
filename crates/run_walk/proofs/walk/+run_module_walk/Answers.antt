-- `run_module` and `walk` meet their contracts. A walk's turn is `turn-gate`, `turn_module`, or `turn-idle` where no net is driven; at its end
-- the module has run. Assumes nothing.
use Rattle.std.proofs.Common.{◌≡◌, ◌<◌, ◌+◌, ◌-◌, length, arith, rules, sym, ◌∙◌}
use Rattle.image.specs.Scenes.{module_stands, module_there}
use Rattle.image.specs.Walking.{occurrence-there}
use Rattle.gates.specs.Gates.{module_of-kind}
use Rattle.run_walk.proofs.Progress.{walking_begins, finish}
use Rattle.run_walk.proofs.Turns.{Here, here, own, enter}
use Rattle.run_walk.proofs.Turns as turns
use Rattle.run_walk.proofs.ModuleTurns as modules
use Rattle.run_walk.proofs.walk.+run_module_walk.Goals.{walk-in-Gate, walk-in-Module+then-o-gt0, walk-in-Module+else-o-gt0}
use Rattle.run_walk.proofs.walk.+run_module_walk.Goals as goal

-- `run_module`. The header that was read is the module's, so its occurrences can be walked.
pub run_module-walk-requires : goal.run_module-walk-requires
run_module-walk-requires g t c κs lives = (
  omega (arith, c.decreases),
  (
    lives.0,
    (lives.1, record { runnable = c.requires; header = c.module.ensures c.requires.scene.m (module_stands c.requires.scene) }),
  ),
)

pub run_module-returns : goal.run_module-returns
run_module-returns g t c s =
    c.walk.ensures (record { runnable = s; header = c.module.ensures s.scene.m (module_stands s.scene) })

-- `walk`.
pub walk-loop-init : goal.walk-loop-init
walk-loop-init g t c s ahead =
    let all : c.args.header.count ≡ c.args.header.count - 0 = omega arith in
    rw (sym all) (walking_begins g.W.Work.work c.args.scratch.now s ahead)

pub walk-occurrence_at-o-requires : goal.walk-occurrence_at-o-requires
walk-occurrence_at-o-requires g t c =
    occurrence-there (omega (arith, c.loop-test.true)) (c.loop.invariant c.requires.runnable (enter c.requires)).ahead

pub walk-overflow_add-filled : goal.walk-overflow_add-filled
walk-overflow_add-filled g t c =
    let now = own c.requires c.loop.invariant (omega (arith, c.loop-test.true)) c.occurrence_at-o.ensures in
    omega (arith, now.turn.fits, turns.enough now, now.progress.size)

-- At a gate. The slot that it fills is one of scratch.
pub walk-at_gate-requires : goal.walk-at_gate-requires
walk-at_gate-requires g t c =
    turns.turn-readable (own c.requires c.loop.invariant (omega (arith, c.loop-test.true)) c.occurrence_at-o.ensures)

pub walk-bounds-scratch-here : goal.walk-bounds-scratch-here
walk-bounds-scratch-here g t c =
    turns.gate-room (own c.requires c.loop.invariant (omega (arith, c.loop-test.true)) c.occurrence_at-o.ensures)
    (sym c.kind_of.ensures ∙ c.in-Gate.is)

pub walk-offset_bounds-scratch-here : goal.walk-offset_bounds-scratch-here
walk-offset_bounds-scratch-here g t c =
    let now = own c.requires c.loop.invariant (omega (arith, c.loop-test.true)) c.occurrence_at-o.ensures in
    let inside : c.loop.filled < length c.loop.scratch = turns.gate-room now (sym c.kind_of.ensures ∙ c.in-Gate.is) in
    search rules

-- At a module. Its part of scratch begins within it.
pub walk-overflow_sub-j : goal.walk-overflow_sub-j
walk-overflow_sub-j g t c = module_of-kind _ (sym c.kind_of.ensures ∙ c.in-Module.is)

pub walk-module-sub-requires-clause-starts_in_bounds : goal.walk-module-sub-requires-clause-starts_in_bounds
walk-module-sub-requires-clause-starts_in_bounds g t c =
    modules.target-listed (own c.requires c.loop.invariant (omega (arith, c.loop-test.true)) c.occurrence_at-o.ensures)
    (sym c.kind_of.ensures ∙ c.in-Module.is)

pub walk-module-sub-requires-clause-module_there : goal.walk-module-sub-requires-clause-module_there
walk-module-sub-requires-clause-module_there g t c =
    module_there
    (modules.sub (own c.requires c.loop.invariant (omega (arith, c.loop-test.true)) c.occurrence_at-o.ensures)
    (sym c.kind_of.ensures ∙ c.in-Module.is))

pub walk-copy-requires : goal.walk-copy-requires
walk-copy-requires g t c =
    modules.passes (own c.requires c.loop.invariant (omega (arith, c.loop-test.true)) c.occurrence_at-o.ensures)
    (sym c.kind_of.ensures ∙ c.in-Module.is)

pub walk-run_module-requires : goal.walk-run_module-requires
walk-run_module-requires g t c κs lives =
    let now = own c.requires c.loop.invariant (omega (arith, c.loop-test.true)) c.occurrence_at-o.ensures in
    let kind = sym c.kind_of.ensures ∙ c.in-Module.is in (
      omega (arith, modules.falls now kind, c.decreases),
      (lives.0, (lives.1, modules.calls now kind (c.copy.ensures g.W.Work.work.none))),
    )

pub walk-copy-requires-then-o-gt0 : goal.walk-copy-requires-then-o-gt0
walk-copy-requires-then-o-gt0 g t c =
    let now = own c.requires c.loop.invariant (omega (arith, c.loop-test.true)) c.occurrence_at-o.ensures in
    let kind = sym c.kind_of.ensures ∙ c.in-Module.is in
    modules.fetches now kind (c.copy.ensures g.W.Work.work.none) c.run_module.new.scratch c.run_module.auto.scratch
    (c.module-sub.ensures (modules.sub now kind).m (module_stands (modules.sub now kind)))

-- What the turn left of the count is what the loop still has to go.
pub walk-loop-preserved : goal.walk-loop-preserved
walk-loop-preserved g t c s ahead =
    let now = here c.loop.invariant (omega (arith, c.loop-test.true)) c.occurrence_at-o.ensures s ahead in
    let left : c.args.header.count - c.loop.counter - 1 ≡ c.args.header.count - (c.loop.counter + 1) = omega arith in
    rw (sym left)
    (elim c.match-kind_of.branch [
      | walk-in-Gate w ↦
          rw w.scratch-is
          (turns.turn-gate now (sym c.kind_of.ensures ∙ w.in-Gate.is) (w.at_gate.ensures _))
      | walk-in-Module+then-o-gt0 w ↦
          let kind = sym c.kind_of.ensures ∙ w.in-Module.is in
          rw w.scratch-is
          (modules.turn_module now kind (w.copy.ensures g.W.Work.work.none) w.run_module.new.scratch w.run_module.auto.scratch
          (w.module-sub.ensures (modules.sub now kind).m (module_stands (modules.sub now kind)))
          (w.run_module.ensures (modules.calls now kind (w.copy.ensures g.W.Work.work.none)))
          (w.copy-then-o-gt0.ensures g.W.Work.work.none))
      | walk-in-Module+else-o-gt0 w ↦ rw w.scratch-is (turns.turn-idle now (omega (arith, w.if-o-gt0.false)))
    ])

pub walk-returns : goal.walk-returns
walk-returns g t c s = finish (c.loop.invariant s.runnable (enter s)) (omega (arith, c.loop-test.false))
