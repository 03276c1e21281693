-- `run_rows` meets its contract: block by block the outputs of the rows passed stand one behind the other.
use Rattle.std.specs.Int.{div_ceil}
use Rattle.std.proofs.Common.{ℕ, ◌≡◌, ◌<◌, ◌≤◌, ◌*◌, ◌+◌, ◌-◌, min, refl, sym, ap, ◌∙◌, arith}
use Rattle.image.specs.Laid.{laid, laid-nothing}
use Rattle.image.specs.Scenes.{in_starts, module_there}
use Rattle.open_finding.specs.OnImage.{scene, inputs_are, outputs-are}
use Rattle.run_rows.specs.Joined.{joined}
use Rattle.run_rows.specs.Turning.{row_gives, read-there, write-there, turn-runs, turn_more, all-given}
use Rattle.run_rows.proofs.blocks.run_rows.Goals as goal

-- The rows of a block are some of all.
within :
    {block end rows some : ℕ}
    → block < end
    → end ≡ div_ceil rows 256
    → some ≡ min (rows - block * 256) 256
    → block * 256 + some ≤ rows
within more all some = omega (arith, more, all, some)

-- From where the outputs' places begin and end, how many they are.
spans : (from to : ℕ) {count : ℕ} → to ≡ from + count → to - from ≡ count
spans from to e = omega (arith, e)

pub module-header-requires : goal.module-header-requires
module-header-requires c =
    let there = scene c.requires.standing in
    record { starts_in_bounds = in_starts there; module_there = module_there there }

pub overflow_sub-outputs : goal.overflow_sub-outputs
overflow_sub-outputs c = omega (arith, outputs-are c.requires.standing c.module-header.ensures)

pub loop-block-init : goal.loop-block-init
unfolding joined
loop-block-init c =
    let none : 0 ≡ min c.args.rows 0 = omega arith in
    (refl, refl, λ s. sym (laid-nothing c.args.out.now 0) ∙ ap (λ (n : ℕ). laid c.args.out.now 0 (joined (row_gives s) n)) none)

pub overflow_mul-done-in-loop-block : goal.overflow_mul-done-in-loop-block
overflow_mul-done-in-loop-block c =
    let s = c.requires in
    let done = c.loop-block.block * 256 in
    let upto = within c.loop-block-test.true c.div_ceil-block-end.ensures c.min-some.ensures in
    let outs = spans _ _ (outputs-are s.standing c.module-header.ensures) in
    omega (arith, read-there s done c.min-some.result upto (inputs_are s.standing c.module-header.ensures) outs)

pub overflow_mul-done-in-loop-block-2 : goal.overflow_mul-done-in-loop-block-2
overflow_mul-done-in-loop-block-2 c =
    let s = c.requires in
    let done = c.loop-block.block * 256 in
    let upto = within c.loop-block-test.true c.div_ceil-block-end.ensures c.min-some.ensures in
    let outs = spans _ _ (outputs-are s.standing c.module-header.ensures) in
    omega (arith, write-there s done c.min-some.result upto (inputs_are s.standing c.module-header.ensures) outs)

pub run_block-requires : goal.run_block-requires
run_block-requires c =
    let s = c.requires in
    let done = c.loop-block.block * 256 in
    let upto = within c.loop-block-test.true c.div_ceil-block-end.ensures c.min-some.ensures in
    let outs = spans _ _ (outputs-are s.standing c.module-header.ensures) in
    let few : c.min-some.result ≤ 256 = omega (arith, c.min-some.ensures) in
    turn-runs s done c.min-some.result upto (inputs_are s.standing c.module-header.ensures) outs few c.loop-block.invariant.0 c.loop-block.invariant.1

pub loop-block-preserved : goal.loop-block-preserved
loop-block-preserved c =
    let l = c.loop-block in
    let a = c.args in
    let done = l.block * 256 in
    let upto = within c.loop-block-test.true c.div_ceil-block-end.ensures c.min-some.ensures in
    let few : c.min-some.result ≤ 256 = omega (arith, c.min-some.ensures) in
    let before : min a.rows done ≡ done = omega (arith, upto) in
    let next : done + c.min-some.result ≡ min a.rows ((l.block + 1) * 256) = omega (arith, upto, c.min-some.ensures) in (
      c.run_block.auto.entries ∙ l.invariant.0,
      c.run_block.auto.out ∙ l.invariant.1,
      λ s.
          let ins = inputs_are s.standing c.module-header.ensures in
          let outs = spans _ _ (outputs-are s.standing c.module-header.ensures) in
          turn_more s done c.min-some.result upto ins outs a.out.now refl
          (l.invariant.2 s ∙ ap (λ (n : ℕ). laid a.out.now 0 (joined (row_gives s) n)) before)
          (c.run_block.ensures (turn-runs s done c.min-some.result upto ins outs few l.invariant.0 l.invariant.1))
          ∙ ap (λ (n : ℕ). laid a.out.now 0 (joined (row_gives s) n)) next,
    )

pub returns : goal.returns
returns c s =
    let all : min c.args.rows (c.loop-block.block * 256) ≡ c.args.rows =
    omega (arith, c.loop-block-test.false, c.div_ceil-block-end.ensures, c.loop-block.auto.block-end) in
    all-given s c.args.out.now all (c.loop-block.invariant.2 s)
