-- What `call_evaluate::evaluate_at` meets: each refusal where those before it are passed, then the run. Assumes nothing.
use Prim.Native.Nat.{◌≤◌}
use mathlib.Core.Path.{◌≡◌, sym, ◌∙◌}
use native.Mathlib.Omega.{arith}
use lib.ListN.{length}
use Rattle.image.specs.Scenes.{in_starts, module_there}
use Rattle.open_finding.specs.OnImage.{scene, inputs_are, outputs-are}
use Rattle.call_evaluate.proofs.SmallValues.{none_above}
use Rattle.call_evaluate.proofs.Refusing.{other-count, value-above, scratch-short, out-short}
use Rattle.call_evaluate.proofs.Running.{runnable}
use Rattle.call_evaluate.proofs.Answering.{answered}
use Rattle.call_evaluate.proofs.evaluate_at.Goals as goal

pub module-header-requires : goal.module-header-requires
module-header-requires c =
    let found = scene c.requires in
    record { starts_in_bounds = in_starts found; module_there = module_there found }

pub overflow_sub-outputs : goal.overflow_sub-outputs
overflow_sub-outputs c =
    let s = c.requires in
    omega (arith, outputs-are s c.module-header.ensures)

pub returns-then-values-header : goal.returns-then-values-header
returns-then-values-header c s =
    other-count s c.args.values.now _ _ (λ e. c.if-values-header.true (e ∙ sym (inputs_are s c.module-header.ensures)))

pub returns-then-above-values : goal.returns-then-above-values
returns-then-above-values c s =
    let fed = c.if-values-header.false ∙ inputs_are s c.module-header.ensures in
    value-above s _ _ _ fed c.first_above-above.ensures c.if-above-values.true

pub returns-then-scratch-room : goal.returns-then-scratch-room
returns-then-scratch-room c s =
    let fed = c.if-values-header.false ∙ inputs_are s c.module-header.ensures in
    scratch-short s _ _ _ fed (none_above _ c.first_above-above.ensures c.if-above-values.false) c.if-scratch-room.true

pub returns-then-out-outputs : goal.returns-then-out-outputs
returns-then-out-outputs c s =
    let fed = c.if-values-header.false ∙ inputs_are s c.module-header.ensures in
    let is = outputs-are s c.module-header.ensures in
    out-short s _ _ _ fed (none_above _ c.first_above-above.ensures c.if-above-values.false) (omega arith)
    (omega (arith, is, c.if-out-outputs.true))

pub evaluate-requires : goal.evaluate-requires
evaluate-requires c =
    let s = c.requires in
    let fed = c.if-values-header.false ∙ inputs_are s c.module-header.ensures in
    let is = outputs-are s c.module-header.ensures in
    runnable s fed c.if-scratch-room.false (omega (arith, is, c.if-out-outputs.false))

pub returns : goal.returns
returns c s =
    let fed = c.if-values-header.false ∙ inputs_are s c.module-header.ensures in
    let is = outputs-are s c.module-header.ensures in
    answered s _ _ _ fed (none_above _ c.first_above-above.ensures c.if-above-values.false) c.if-scratch-room.false
    (omega (arith, is, c.if-out-outputs.false)) c.evaluate.ensures (omega (arith, is))
