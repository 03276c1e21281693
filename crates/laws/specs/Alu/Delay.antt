-- The delay of the ALU is at most 5 more than twice the height of the adder's shape, and 6 more where the control lines are copied. So
-- it is at most 7 and 2 for each doubling of the width.
use Prim.Native.Nat.{ℕ, zero, suc, ◌+◌, ◌*◌, ◌-◌, ◌/◌, ◌^◌, ◌<◌, ◌≤◌, min}
use Rattle.std.specs.Prelude.{◌≡◌, cond, leb, length, replicate}
use mathlib.Core.List.{[], append-nil}
use Rattle.std.proofs.Common.{add-zero, length-append, le-leb}
use native.Mathlib.Omega.{arith}
use Rattle.std.proofs.lemmas.List.{length-replicate}
use Rattle.meaning.specs.Boxlist.{assoc}
use Rattle.meaning.specs.Evaluation.{look, look_all}
use Rattle.meaning.specs.Figures.{largest, arrivals, delay_by, delay}
use Rattle.meaning.specs.Adder.{up_from}
use Rattle.meaning.specs.Counter.{XOR}
use Rattle.meaning.specs.FastAdder.{leaves, spine, height, steps}
use Rattle.meaning.specs.Alu.{b_net, carry_net, p_net, g_net, q_net, out_net, result_net, flip_net, copy_count, alu_module, alu_over, alu}
use Rattle.laws.specs.Adder.Nets.{length-up_from}
use Rattle.laws.specs.FastAdder.Shape.{steps-width, height_tall}
use Rattle.laws.specs.FastAdder.Doubling.{height-by_doublings}
use Rattle.laws.specs.FastAdder.Times.{unit}
use Rattle.laws.specs.FastAdder.Grown.{spine_quick}
use Rattle.laws.specs.FastAdder.Delay.{latest-run}
use Rattle.laws.specs.Alu.Signals.{inputs}
use Rattle.laws.specs.Alu.Nets.{Nets, nets}
use Rattle.laws.specs.Alu.Times.{by_two, lines, cell-by}

module _ (n copied : ℕ) (some : 1 ≤ n) (ns : Nets 0 unit n copied (steps n) (replicate (2 * n + 5) 0)) where
  abbrev at : ℕ → ℕ
  at net = look 0 net ns.env

  abbrev late : ℕ
  late = min 1 copied

  -- The carries, from 3 on, or from 4 on where there are copies.
  bits :
      (i : ℕ) → i < n
      → (ns.carries.inner (n + 1 + i) ≤ 3 + late + 1) × (ns.carries.inner (n + 1 + i + n) ≤ 3 + late + 1)
  bits i low =
      let place : p_net n + n + i ≡ g_net n + i = omega arith in
      let by = cell-by n copied some ns i low in (
        rw (ns.carries.inner_p i low) (omega (arith, by.p)),
        rw (ns.carries.inner_g i low, place) (omega (arith, by.g)),
      )

  carry_in : ns.carries.inner 0 ≤ 4
  carry_in = rw (ns.carries.inner_carry 0 (omega arith), add-zero (carry_net n)) (omega (arith, (lines n copied some ns).carry))

  carry-at : (i : ℕ) → i ≤ n → at (carry_net n + i) ≤ 2 * height n + 4 + late
  unfolding steps
  carry-at zero low = rw (add-zero (carry_net n)) (omega (arith, (lines n copied some ns).carry))
  carry-at (suc i) low =
      rw (← ns.carries.inner_carry (suc i) low)
      (((spine_quick n ns.carries.inner (3 + late) bits 0 (height n) (2 * height n + 4 + late) (omega arith)).lowest n 0
      (height_tall n) (omega arith) ns.carries.chained (omega (arith, carry_in))).by (suc i) (omega arith) (omega arith))

  some-height : 1 ≤ height n
  unfolding spine leaves
  some-height = go (height n) (height_tall n)
    where
      go : (h : ℕ) → n < leaves (spine 0 h) → 1 ≤ h
      go zero tall = absurd (omega arith)
      go (suc h) tall = omega arith

  -- The outputs.
  abbrev bound : ℕ
  bound = 2 * height n + 5 + late

  out_at : at (out_net n) ≤ bound
  out_at =
      let last : 3 * n + 6 ≡ carry_net n + n = omega arith in
      rw (ns.carry, last)
      (by_two XOR bound (at (carry_net n + n)) (at (flip_net n)) (omega (arith, carry-at n (omega arith))) (omega (arith, (lines n copied some ns).flip)))

  over-at : at (suc (out_net n)) ≤ bound
  over-at =
      let last : 3 * n + 6 ≡ carry_net n + n = omega arith in
      let before : 3 * n + 5 ≡ carry_net n + (n - 1) = omega arith in
      rw (ns.overflow, last, before)
      (by_two XOR bound (at (carry_net n + n)) (at (carry_net n + (n - 1)))
      (omega (arith, carry-at n (omega arith)))
      (omega (arith, carry-at (n - 1) (omega arith))))

  result-at : (i : ℕ) → i < n → at (result_net n + i) ≤ bound
  result-at i low =
      rw (ns.result i low)
      (by_two XOR bound (at (q_net n + i)) (at (carry_net n + i))
      (omega (arith, (cell-by n copied some ns i low).q, some-height))
      (omega (arith, carry-at i (omega arith))))

  outputs-by : largest (look_all 0 (up_from (out_net n) (n + 2)) ns.env) ≤ bound
  unfolding largest look_all up_from
  outputs-by =
      let outs : n + 2 ≡ suc (suc n) = omega arith in
      let results : suc (suc (out_net n)) ≡ result_net n = omega arith in
      let latest : largest (look_all 0 (up_from (result_net n) n) ns.env) ≤ bound =
      rw append-nil at (latest-run ns.env (result_net n) n bound [] result-at (omega arith))
      in
      rw (outs, results) (omega (arith, out_at, over-at))

pub alu-delay-by-height : (n : ℕ) → 1 ≤ n → delay (alu n) 48 ≤ 2 * height n + 5 + min 1 (copy_count n)
unfolding delay delay_by arrivals assoc alu alu_over alu_module
alu-delay-by-height n some =
    let count : length (inputs n) ≡ 2 * n + 5 =
    omega (
      arith,
      length-append (up_from 0 (n + 1)) (up_from (b_net n) (n + 4)),
      length-up_from 0 (n + 1),
      length-up_from (b_net n) (n + 4),
    )
    in
    let ns =
    nets 0 unit n (copy_count n) (steps n) some (steps-width n) (replicate (2 * n + 5) 0)
    (omega (arith, length-replicate {A = ℕ} (2 * n + 5) 0))
    in
    rw (count, ns.outputs) (outputs-by n (copy_count n) some ns)

-- Up to width 8, where there are no copies, and from width 2 on.
pub alu-delay-narrow : (n : ℕ) → 1 ≤ n → n ≤ 8 → delay (alu n) 48 ≤ 2 * height n + 5
unfolding copy_count
alu-delay-narrow n some most =
    let none : cond (leb n 8) 0 ((n + 7) / 8) ≡ 0 = rw (le-leb n 8 most) in
    omega (arith, alu-delay-by-height n some)

pub alu-delay : (n c : ℕ) → 2 ≤ n → n ≤ 2 ^ c → delay (alu n) 48 ≤ 6 + 2 * c
alu-delay n zero two reached = absurd (omega arith)
alu-delay n (suc c) two reached =
    omega (arith, alu-delay-by-height n (omega arith), height-by_doublings n (suc c) (omega arith) reached)

-- At each width: 7 and 2 for each doubling.
pub alu-delay-at-most : (n c : ℕ) → 1 ≤ n → n ≤ 2 ^ c → delay (alu n) 48 ≤ 7 + 2 * c
alu-delay-at-most zero c some reached = absurd (omega arith)
alu-delay-at-most (suc zero) c some reached =
    omega (arith, alu-delay-narrow 1 (omega arith) (omega arith), height-by_doublings 1 1 (omega arith) (omega arith))
alu-delay-at-most (suc (suc n)) c some reached = omega (arith, alu-delay (suc (suc n)) c (omega arith) reached)
