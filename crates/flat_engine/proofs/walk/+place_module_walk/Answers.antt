-- `place_module` and `walk` meet their contracts. A walk's turn is `turn-gate` or `turn_module`; at its end the plan is carried out. Assumes
-- nothing.
use Rattle.std.proofs.Common.{arith, sym, ◌∙◌}
use Rattle.std.proofs.Math.Nat.{sub-zero, sub-add-eq}
use Rattle.gates.specs.Gates.{gate-told, module_told, module_of-kind}
use Rattle.image.specs.Scenes.{in_starts, in_nets, module_stands, module_there}
use Rattle.image.specs.Walking.{all-ahead, occurrence-there}
use Rattle.flat_engine.specs.Plan.{scene}
use Rattle.flat_engine.proofs.Progress.{begin, finish}
use Rattle.flat_engine.proofs.Turns.{here, own, narrow, gate-room, numbered, settable, turn-gate}
use Rattle.flat_engine.proofs.ModuleTurns as turns
use Rattle.flat_engine.proofs.walk.+place_module_walk.Goals as goal
use Rattle.flat_engine.proofs.walk.+place_module_walk.Goals.{walk-in-Gate, walk-in-Module}

-- `place_module`. The header that was read is the module's.
pub place_module-offset_bounds-image-k : goal.place_module-offset_bounds-image-k
place_module-offset_bounds-image-k t c = omega (arith, in_starts (scene c.requires.ready))

pub place_module-bounds-image-k : goal.place_module-bounds-image-k
place_module-bounds-image-k t c = in_starts (scene c.requires.ready)

pub place_module-module_at-header-requires : goal.place_module-module_at-header-requires
place_module-module_at-header-requires t c = module_there (scene c.requires.ready)

pub place_module-walk-requires : goal.place_module-walk-requires
place_module-walk-requires t c = (
  omega (arith, c.decreases),
  record {
    plan = c.requires.plan;
    ready = c.requires.ready;
    header = c.module_at-header.ensures _ (module_stands (scene c.requires.ready));
  },
)

pub place_module-returns : goal.place_module-returns
place_module-returns t c p ready = c.walk.ensures p ready (c.module_at-header.ensures _ (module_stands (scene ready)))

-- `walk`.
pub walk-offset_bounds-image-k : goal.walk-offset_bounds-image-k
walk-offset_bounds-image-k t c = omega (arith, in_nets (scene c.requires.ready))

pub walk-bounds-image-k : goal.walk-bounds-image-k
walk-bounds-image-k t c = in_nets (scene c.requires.ready)

pub walk-overflow_add-at : goal.walk-overflow_add-at
walk-overflow_add-at t c = omega (arith, c.requires.header.body.within)

pub walk-loop-init : goal.walk-loop-init
walk-loop-init t c p ready ahead = begin ready (rw (sub-zero _) ahead)

pub walk-occurrence_at-o-requires : goal.walk-occurrence_at-o-requires
walk-occurrence_at-o-requires t c =
    let w = c.requires in
    occurrence-there (omega arith) (c.loop.invariant w.plan w.ready (all-ahead (scene w.ready) w.header)).ahead

pub walk-overflow_add-filled : goal.walk-overflow_add-filled
walk-overflow_add-filled t c =
    omega (arith, narrow (own c.requires c.loop.invariant (omega arith) c.occurrence_at-o.ensures))

-- At a gate. The slot that it fills is one of scratch.
pub walk-set_gate-behind-requires : goal.walk-set_gate-behind-requires
walk-set_gate-behind-requires t c =
    settable (own c.requires c.loop.invariant (omega arith) c.occurrence_at-o.ensures)
    (gate-told _ (sym c.kind_of.ensures ∙ c.in-Gate.is))

pub walk-offset_bounds-scratch-here : goal.walk-offset_bounds-scratch-here
walk-offset_bounds-scratch-here t c =
    let now = own c.requires c.loop.invariant (omega arith) c.occurrence_at-o.ensures in
    omega (arith, gate-room now (gate-told _ (sym c.kind_of.ensures ∙ c.in-Gate.is)), now.progress.size)

pub walk-bounds-scratch-here : goal.walk-bounds-scratch-here
walk-bounds-scratch-here t c =
    gate-room (own c.requires c.loop.invariant (omega arith) c.occurrence_at-o.ensures)
    (gate-told _ (sym c.kind_of.ensures ∙ c.in-Gate.is))

pub walk-overflow_add-next : goal.walk-overflow_add-next
walk-overflow_add-next t c =
    omega (
      arith,
      numbered (own c.requires c.loop.invariant (omega arith) c.occurrence_at-o.ensures)
          (gate-told _ (sym c.kind_of.ensures ∙ c.in-Gate.is)),
    )

-- At a module. Its part of scratch begins within it.
pub walk-overflow_sub-j : goal.walk-overflow_sub-j
walk-overflow_sub-j t c = module_of-kind _ (sym c.kind_of.ensures ∙ c.in-Module.is)

pub walk-bounds-image-j : goal.walk-bounds-image-j
walk-bounds-image-j t c =
    turns.listed (own c.requires c.loop.invariant (omega arith) c.occurrence_at-o.ensures)
    (module_told _ (sym c.kind_of.ensures ∙ c.in-Module.is))

pub walk-module_at-sub-requires : goal.walk-module_at-sub-requires
walk-module_at-sub-requires t c =
    module_there
    (turns.sub (own c.requires c.loop.invariant (omega arith) c.occurrence_at-o.ensures)
    (module_told _ (sym c.kind_of.ensures ∙ c.in-Module.is)))

pub walk-copy-requires : goal.walk-copy-requires
walk-copy-requires t c =
    turns.passes (own c.requires c.loop.invariant (omega arith) c.occurrence_at-o.ensures)
    (module_told _ (sym c.kind_of.ensures ∙ c.in-Module.is))

pub walk-place_module-pen-requires : goal.walk-place_module-pen-requires
walk-place_module-pen-requires t c =
    let now = own c.requires c.loop.invariant (omega arith) c.occurrence_at-o.ensures in
    let no_gate = module_told _ (sym c.kind_of.ensures ∙ c.in-Module.is) in (
      omega (arith, turns.falls now no_gate, c.decreases),
      record { plan = _; ready = turns.calls now no_gate c.copy.ensures },
    )

pub walk-copy-requires-in-Module : goal.walk-copy-requires-in-Module
walk-copy-requires-in-Module t c =
    let now = own c.requires c.loop.invariant (omega arith) c.occurrence_at-o.ensures in
    let no_gate = module_told _ (sym c.kind_of.ensures ∙ c.in-Module.is) in
    turns.fetches now no_gate c.copy.ensures c.place_module-pen.new.scratch c.place_module-pen.auto.scratch
    (c.module_at-sub.ensures _ (module_stands (turns.sub now no_gate)))

pub walk-loop-preserved : goal.walk-loop-preserved
walk-loop-preserved t c p ready ahead =
    let now = here c.loop.invariant (omega arith) c.occurrence_at-o.ensures p ready ahead in
    rw (sub-add-eq _ c.loop.counter 1)
    (elim c.match-kind_of.branch [
      | walk-in-Gate w ↦
          rw (w.next-is, w.behind-is, w.scratch-is, w.bytes-is)
          (turn-gate now (gate-told _ (sym c.kind_of.ensures ∙ w.in-Gate.is)) w.set_gate-behind.ensures)
      | walk-in-Module w ↦
          let no_gate = module_told _ (sym c.kind_of.ensures ∙ w.in-Module.is) in
          rw (w.next-is, w.behind-is, w.scratch-is, w.bytes-is)
          (turns.turn_module now no_gate w.copy.ensures w.place_module-pen.new.scratch w.place_module-pen.auto.scratch
          (w.module_at-sub.ensures _ (module_stands (turns.sub now no_gate)))
          (w.place_module-pen.ensures _ (turns.calls now no_gate w.copy.ensures))
          w.copy-in-Module.ensures)
    ])

pub walk-returns : goal.walk-returns
walk-returns t c p ready header = finish ready (c.loop.invariant p ready (all-ahead (scene ready) header)) (omega arith)
