-- `call_rows::block_at` meets its contract: each refusal where those before it are passed, then the runs.
use Rattle.std.proofs.Common.{ℕ, ◌+◌, ◌-◌, ◌*◌, ◌≤◌, ◌≡◌, length, sym, ap, ◌∙◌, arith}
use Rattle.std.proofs.Math.Nat.{mul-le-mul_right}
use Rattle.image.specs.Scenes.{in_starts, module_there}
use Rattle.open_finding.specs.Standing.{module_within}
use Rattle.open_finding.specs.OnImage.{scene, inputs_are, outputs-are}
use Rattle.call_evaluate.proofs.SmallValues.{none_above}
use Rattle.call_rows.proofs.RefusingRows.{other-count, value-above, scratch-short, out-short}
use Rattle.call_rows.proofs.AnsweringRows.{runnable, answered}
use Rattle.call_rows.proofs.block_at.Goals as goal

-- What holds once each demand is passed.
fed : (rows : ℕ) {given inputs asked : ℕ} → given ≡ rows * inputs → inputs ≡ asked → given ≡ rows * asked
fed rows passed header = passed ∙ ap (λ (n : ℕ). rows * n) header

-- The outputs of all rows, from those that the header says.
all-outs : (rows from to asked : ℕ) → to ≡ from + asked → rows * (to - from) ≡ rows * asked
all-outs rows from to asked header = ap (λ (n : ℕ). rows * n) (omega (arith, header))

pub module-header-requires : goal.module-header-requires
module-header-requires c =
    let found = scene c.requires.standing in
    record { starts_in_bounds = in_starts found; module_there = module_there found }

pub overflow_mul-given : goal.overflow_mul-given
overflow_mul-given c =
    let s = c.requires.standing in
    omega (
      arith,
      inputs_are s c.module-header.ensures,
      (module_within s).inputs.count,
      mul-le-mul_right c.module-header.result.inputs c.requires.rows_bound,
    )

pub overflow_sub-outputs : goal.overflow_sub-outputs
overflow_sub-outputs c = omega (arith, outputs-are c.requires.standing c.module-header.ensures)

pub overflow_mul-outputs : goal.overflow_mul-outputs
overflow_mul-outputs c =
    let s = c.requires.standing in
    let h = c.module-header.result in
    omega (arith, outputs-are s c.module-header.ensures, (module_within s).outputs.count, mul-le-mul_right (h.to - h.from) c.requires.rows_bound)

pub returns-then-values-given : goal.returns-then-values-given
returns-then-values-given c s =
    let a = c.args in
    other-count s a.rows a.values.now a.scratch.now a.out.now c.requires.rows_bound
    (λ e. c.if-values-given.true (e ∙ sym (ap (λ (n : ℕ). a.rows * n) (inputs_are s c.module-header.ensures))))

pub returns-then-above-values : goal.returns-then-above-values
returns-then-above-values c s =
    value-above s _ _ _ _ c.requires.rows_bound (fed c.args.rows c.if-values-given.false (inputs_are s c.module-header.ensures)) c.first_above-above.ensures
    c.if-above-values.true

pub returns-then-scratch-room : goal.returns-then-scratch-room
returns-then-scratch-room c s =
    scratch-short s _ _ _ _ c.requires.rows_bound (fed c.args.rows c.if-values-given.false (inputs_are s c.module-header.ensures))
    (none_above _ c.first_above-above.ensures c.if-above-values.false) c.if-scratch-room.true

pub returns-then-out-outputs : goal.returns-then-out-outputs
returns-then-out-outputs c s =
    out-short s _ _ _ _ c.requires.rows_bound (fed c.args.rows c.if-values-given.false (inputs_are s c.module-header.ensures))
    (none_above _ c.first_above-above.ensures c.if-above-values.false) c.if-scratch-room.false
    (omega (arith, all-outs c.args.rows _ _ _ (outputs-are s c.module-header.ensures), c.if-out-outputs.true))

pub run-requires : goal.run-requires
run-requires c =
    let s = c.requires.standing in
    let a = c.args in
    runnable s a.rows a.values.now a.scratch.now a.out.now c.requires.rows_bound
    (fed c.args.rows c.if-values-given.false (inputs_are s c.module-header.ensures)) (none_above _ c.first_above-above.ensures c.if-above-values.false)
    c.if-scratch-room.false (omega (arith, all-outs a.rows _ _ _ (outputs-are s c.module-header.ensures), c.if-out-outputs.false))

pub clear-requires : goal.clear-requires
clear-requires c = omega (arith, c.if-scratch-room.false)

pub returns : goal.returns
returns c s =
    let a = c.args in
    let small = none_above _ c.first_above-above.ensures c.if-above-values.false in
    let all = all-outs a.rows _ _ _ (outputs-are s c.module-header.ensures) in
    let given = fed a.rows c.if-values-given.false (inputs_are s c.module-header.ensures) in
    let long : a.rows * length s.found.m.outputs ≤ length a.out.now = omega (arith, all, c.if-out-outputs.false) in
    answered s a.rows a.values.now a.scratch.now a.out.now c.requires.rows_bound given small c.if-scratch-room.false long
    (c.run.ensures (runnable s a.rows a.values.now a.scratch.now a.out.now c.requires.rows_bound given small c.if-scratch-room.false long))
    c.clear.ensures all
