-- The delay of the propagate-generate adder is at most 2 more than twice the height of its shape. So it is at most 3 and 4 for each
-- doubling, as was asked, and from width 2 on at most 2 and 2 for each doubling.
use Prim.Native.Nat.{ℕ, zero, suc, ◌+◌, ◌*◌, ◌^◌, ◌<◌, ◌≤◌}
use Rattle.std.specs.Prelude.{◌≡◌, refl, List, [], ◌∷◌, ◌++◌, replicate}
use Rattle.std.proofs.Common.{add-zero, add-suc, suc-add, arith}
use Rattle.std.proofs.lemmas.List.{length-replicate}
use Rattle.meaning.specs.Boxlist.{assoc}
use Rattle.meaning.specs.Evaluation.{Env, look, look_all, pairs, walk, run_module, run}
use Rattle.meaning.specs.Figures.{largest, arrivals, delay_by, delay}
use Rattle.meaning.specs.Adder.{up_from}
use Rattle.meaning.specs.Counter.{AND, XOR}
use Rattle.meaning.specs.FastAdder.{leaves, p_net, gate_row, ahead, chain, lookahead, grown, spine, cut, height_from, height, steps, fast_module, fast_adder_over, fast_adder}
use Rattle.laws.specs.Adder.Nets.{length-up_from}
use Rattle.laws.specs.FastAdder.Shape.{steps-width, height_tall}
use Rattle.laws.specs.FastAdder.Doubling.{height-by_doublings}
use Rattle.laws.specs.FastAdder.Adder.{Nets, nets}
use Rattle.laws.specs.FastAdder.Times.{unit, after_two}
use Rattle.laws.specs.FastAdder.Grown.{spine_quick}

-- The latest of a run of nets and some more.
pub latest-run :
    (env : Env ℕ) (first count bound : ℕ) (rest : List ℕ)
    → ((i : ℕ) → i < count → look 0 (first + i) env ≤ bound)
    → largest (look_all 0 rest env) ≤ bound
    → largest (look_all 0 (up_from first count ++ rest) env) ≤ bound
unfolding largest look_all up_from
latest-run env first zero bound rest by rest-by = rest-by
latest-run env first (suc count) bound rest by rest-by =
    let here : look 0 first env ≤ bound = rw (add-zero first) at (by 0 (omega arith)) in
    let on : (i : ℕ) → suc first + i ≡ first + suc i = λ i. omega arith in
    let later = latest-run env (suc first) count bound rest (λ i low. rw (on i) (by (suc i) (omega arith))) rest-by in
    omega arith

-- Nets that are there from the start.
zero-at :
    (env : Env ℕ) (first count : ℕ)
    → look_all 0 (up_from first count) env ≡ replicate count 0
    → (i : ℕ)
    → i < count
    → look 0 (first + i) env ≤ 0
unfolding look_all up_from
zero-at env first zero held i low = absurd (omega arith)
zero-at env first (suc count) held zero low =
    let here : look 0 first env ≡ 0 = cc in
    rw (add-zero first) (omega arith)
zero-at env first (suc count) held (suc i) low =
    rw (add-suc first i, ← suc-add first i) (zero-at env (suc first) count (cc) i (omega arith))

module _ (n : ℕ) (ns : Nets 0 unit n (steps n) (0 ∷ replicate (2 * n) 0)) where
  abbrev at : ℕ → ℕ
  at net = look 0 net ns.env

  input-at : (i : ℕ) → i < 2 * n → at (n + 1 + i) ≤ 0
  unfolding look_all
  input-at = zero-at ns.env (n + 1) (2 * n) (cc ns.inputs)

  second_at : (i : ℕ) → i < n → at (2 * n + 1 + i) ≤ 0
  second_at i low =
      let place : n + 1 + (n + i) ≡ 2 * n + 1 + i = omega arith in
      rw place at (input-at (n + i) (omega arith))

  p-at : (i : ℕ) → i < n → at (3 * n + 1 + i) ≤ 1
  p-at i low = rw (ns.bit_p i low) (after_two XOR 0 _ _ (input-at i (omega arith)) (second_at i low))

  g-at : (i : ℕ) → i < n → at (4 * n + 1 + i) ≤ 1
  g-at i low = rw (ns.bit_g i low) (after_two AND 0 _ _ (input-at i (omega arith)) (second_at i low))

  bits : (i : ℕ) → i < n → (ns.inner (n + 1 + i) ≤ 1) × (ns.inner (n + 1 + i + n) ≤ 1)
  bits i low = (rw (ns.inner_p i low) (p-at i low), rw (ns.inner_g i low) (g-at i low))

  carry_in : ns.inner 0 ≤ 0
  unfolding look_all
  carry_in = let here : at 0 ≡ 0 = cc ns.inputs in rw (ns.inner_carry 0 (omega arith)) (omega arith)

  carry-at : (i : ℕ) → i ≤ n → at i ≤ 2 * height n + 1
  unfolding steps
  carry-at zero low = rw (← ns.inner_carry 0 (omega arith)) (omega (arith, carry_in))
  carry-at (suc i) low =
      rw (← ns.inner_carry (suc i) low)
      (((spine_quick n ns.inner 0 bits 0 (height n) (2 * height n + 1) (omega arith)).lowest n 0 (height_tall n) (omega arith)
      ns.chained (omega (arith, carry_in))).by (suc i) (omega arith) (omega arith))

  sum-at : (i : ℕ) → i < n → at (5 * n + 1 + i) ≤ 2 * height n + 2
  sum-at i low =
      let by = after_two XOR (2 * height n + 1) (at (3 * n + 1 + i)) (at i) (omega (arith, p-at i low)) (carry-at i (omega arith)) in
      rw (ns.sum i low) (omega arith)

  outputs-at : largest (look_all 0 (up_from (5 * n + 1) n ++ (n ∷ [])) ns.env) ≤ 2 * height n + 2
  unfolding largest look_all
  outputs-at =
      latest-run ns.env (5 * n + 1) n (2 * height n + 2) (n ∷ []) sum-at (omega (arith, carry-at n (omega arith)))

pub fast_adder-delay-by-height : (n : ℕ) → 1 ≤ n → delay (fast_adder n) 40 ≤ 2 * height n + 2
unfolding delay delay_by arrivals assoc fast_adder fast_adder_over fast_module
fast_adder-delay-by-height n some =
    let ns = nets 0 unit n (steps n) some (steps-width n) (0 ∷ replicate (2 * n) 0) (omega (arith, length-replicate {A = ℕ} (2 * n) 0)) in
    rw (length-up_from (n + 1) (2 * n), ns.outputs) (outputs-at n ns)

-- From width 2 on.
pub fast_adder-delay : (n c : ℕ) → 2 ≤ n → n ≤ 2 ^ c → delay (fast_adder n) 40 ≤ 2 + 2 * c
fast_adder-delay n zero two reached = absurd (omega arith)
fast_adder-delay n (suc c) two reached =
    omega (arith, fast_adder-delay-by-height n (omega arith), height-by_doublings n (suc c) (omega arith) reached)

delay-at-width_1 : delay (fast_adder 1) 40 ≡ 3
unfolding
    delay delay_by arrivals largest run run_module walk pairs look_all look assoc up_from gate_row leaves p_net ahead chain lookahead grown
    spine cut height_from height steps fast_module fast_adder_over fast_adder
delay-at-width_1 = refl

-- As was asked, at each width.
pub fast_adder-delay-asked : (n c : ℕ) → 1 ≤ n → n ≤ 2 ^ c → delay (fast_adder n) 40 ≤ 3 + 4 * c
fast_adder-delay-asked zero c some reached = absurd (omega arith)
fast_adder-delay-asked (suc zero) c some reached = omega (arith, delay-at-width_1)
fast_adder-delay-asked (suc (suc n)) c some reached = omega (arith, fast_adder-delay (suc (suc n)) c (omega arith) reached)
