-- What `tally_engine::tally_once` meets: a row that is filled is the answer; else a turn of the loop counts an occurrence, a gate for
-- itself and a module by its tally, and at its end the row is filled. Assumes nothing.
use mathlib.Core.Path.{sym, ◌∙◌}
use Rattle.std.proofs.Math.Nat.{sub-zero, sub-add-eq}
use native.Mathlib.Omega.{arith}
use Rattle.gates.specs.Gates.{gate-told, module_told, module_of-kind}
use Rattle.image.specs.Scenes.{module_stands}
use Rattle.image.specs.Walking.{occurrence-there, turn}
use Rattle.tally_engine.proofs.Counting.{none-counted, at-gate, tallying, at_module, all-counted}
use Rattle.tally_engine.proofs.KeptRows.{more-kept}
use Rattle.tally_engine.proofs.+tally_once.Goals as goal
use Rattle.tally_engine.proofs.+tally_once.Goals.{in-Gate, in-Module}

pub loop-init : goal.loop-init
loop-init t c s =
    (rw (sub-zero _) (none-counted s.countable (c.module_at-header.ensures _ (module_stands s.countable.scene)) c.nothing-tally.ensures), s.kept)

pub occurrence_at-o-requires : goal.occurrence_at-o-requires
occurrence_at-o-requires t c = occurrence-there (omega arith) (c.loop.invariant c.requires).0.ahead

-- A gate counts for itself.
pub with_gate-tally-requires-clause-kind_bound : goal.with_gate-tally-requires-clause-kind_bound
with_gate-tally-requires-clause-kind_bound t c =
    let s = c.requires in
    let sofar = (c.loop.invariant s).0 in
    let gate = gate-told _ (sym c.kind_of.ensures ∙ c.in-Gate.is) in
    (at-gate s.countable sofar (turn (omega arith) sofar.ahead c.occurrence_at-o.ensures) gate).below

pub with_gate-tally-requires-clause-addable : goal.with_gate-tally-requires-clause-addable
with_gate-tally-requires-clause-addable t c =
    let s = c.requires in
    let sofar = (c.loop.invariant s).0 in
    let gate = gate-told _ (sym c.kind_of.ensures ∙ c.in-Gate.is) in
    (at-gate s.countable sofar (turn (omega arith) sofar.ahead c.occurrence_at-o.ensures) gate).step.addable

-- A module adds its tally.
pub overflow_sub-j : goal.overflow_sub-j
overflow_sub-j t c = module_of-kind _ (sym c.kind_of.ensures ∙ c.in-Module.is)

pub tally_once-inner-requires : goal.tally_once-inner-requires
tally_once-inner-requires t c =
    let s = c.requires in
    let sofar = c.loop.invariant s in
    let now = turn (omega arith) sofar.0.ahead c.occurrence_at-o.ensures in
    let is_module = module_told _ (sym c.kind_of.ensures ∙ c.in-Module.is) in
    let inner = at_module s.countable sofar.0 now is_module in
    (omega (arith, c.decreases, inner.after, inner.inside), tallying s.countable sofar.0 now is_module sofar.1)

pub with_tally-tally-requires : goal.with_tally-tally-requires
with_tally-tally-requires t c =
    let s = c.requires in
    let sofar = c.loop.invariant s in
    let now = turn (omega arith) sofar.0.ahead c.occurrence_at-o.ensures in
    let is_module = module_told _ (sym c.kind_of.ensures ∙ c.in-Module.is) in
    let done = c.tally_once-inner.ensures (tallying s.countable sofar.0 now is_module sofar.1) in
    ((at_module s.countable sofar.0 now is_module).step done.is).addable

pub loop-preserved : goal.loop-preserved
loop-preserved t c s =
    let sofar = c.loop.invariant s in
    let now = turn (omega arith) sofar.0.ahead c.occurrence_at-o.ensures in
    rw (sub-add-eq _ c.loop.counter 1)
    (elim c.match-kind_of.branch [
      | in-Gate w ↦
          let gate = gate-told _ (sym c.kind_of.ensures ∙ w.in-Gate.is) in
          rw (w.tally-is, w.rows-is, w.filled-is) ((at-gate s.countable sofar.0 now gate).step.next w.with_gate-tally.ensures, sofar.1)
      | in-Module w ↦
          let is_module = module_told _ (sym c.kind_of.ensures ∙ w.in-Module.is) in
          let done = w.tally_once-inner.ensures (tallying s.countable sofar.0 now is_module sofar.1) in
          rw (w.tally-is, w.rows-is, w.filled-is) (((at_module s.countable sofar.0 now is_module).step done.is).next w.with_tally-tally.ensures, done.kept)
    ])

-- What was counted fills its row.
pub returns : goal.returns
returns t c s =
    let sofar = c.loop.invariant s in
    let all = all-counted s.countable (omega arith) sofar.0 in
    record { is = all; kept = more-kept sofar.1 c.fill_row.ensures all c.fill_row.auto.rows c.fill_row.auto.filled }
