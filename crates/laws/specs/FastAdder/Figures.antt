-- Figures of the propagate-generate adder that count its occurrences. Twice its gates are 15n less 5 for each step over one tree and 8
-- for each over two; its expanded size is 9n + 1 less 3 and 5 for these; its room is at most 10n + 10.
use Rattle.std.specs.Prelude.{ℕ, suc, ◌+◌, ◌*◌, ◌-◌, ◌/◌, ◌≤◌, ◌≡◌, Bool, true, false, cond, List, [], ◌∷◌, eqb}
use Rattle.std.proofs.Math.Path.{refl}
use native.Mathlib.Omega.{arith}
use Rattle.std.proofs.Common.{lit≤}
use Rattle.std.proofs.Math.ListN.{length}
use Rattle.meaning.specs.Syntax.{Occurrence}
use Rattle.meaning.specs.Gates.{is_gate}
use Rattle.meaning.specs.Limits.{driven, net_count, body_size, expanded_size}
use Rattle.meaning.specs.Figures.{body_weight, gate_weight, gate_count, largest_referred, room}
use Rattle.meaning.specs.Counter.{gate_on, AND, XOR}
use Rattle.meaning.specs.FastAdder.{Step, over_one, over_two, chain, lookahead, carries_ahead, fast_module, fast_adder_over, steps, fast_adder}
use Rattle.laws.specs.Bounds.{largest-within}
use Rattle.laws.specs.Adder.Nets.{length-up_from}
use Rattle.laws.specs.FastAdder.Signals.{width}
use Rattle.laws.specs.FastAdder.Passing.{carriers}
use Rattle.laws.specs.FastAdder.Bodies.{after_first}
use Rattle.laws.specs.FastAdder.Shape.{steps-width}
use Rattle.laws.specs.FastAdder.Counting.{total, total-append, length-total, driven-total, visits, size-total, gates_of, weight_total, ones, twos, width-counted, total-chain, total-row}

module _ (n : ℕ) (steps : List Step) (whole : width steps ≡ n) where
  -- Module 41.
  pub chain-gates :
      2 * body_weight (λ kind. 1) (gate_weight (λ kind. 1) carriers) (chain n steps 0) + 5 * ones steps + 8 * twos steps ≡ 9 * n
  unfolding gate_weight body_weight gates_of
  chain-gates =
      let later = gate_weight (λ kind. 1) carriers in
      omega (
        arith,
        weight_total later (chain n steps 0),
        total-chain n (gates_of later) 2 3 1 (λ x s. refl) (λ x y s. refl) (λ x y z s. refl) (λ x y z s. refl) steps 0,
        width-counted steps,
      )

  pub chain-size : body_size (expanded_size carriers) (chain n steps 0) + 3 * ones steps + 5 * twos steps ≡ 6 * n
  unfolding expanded_size body_size visits
  chain-size =
      let later = expanded_size carriers in
      omega (
        arith,
        size-total later (chain n steps 0),
        total-chain n (visits later) 3 4 1 (λ x s. refl) (λ x y s. refl) (λ x y z s. refl) (λ x y z s. refl) steps 0,
        width-counted steps,
      )

  chain-driven : length (driven (chain n steps 0)) + ones steps + 2 * twos steps ≡ 2 * n
  chain-driven =
      omega (
        arith,
        driven-total (chain n steps 0),
        total-chain n (λ o. length o.drives) 1 1 1 (λ x s. refl) (λ x y s. refl) (λ x y z s. refl) (λ x y z s. refl) steps 0,
        width-counted steps,
      )

  pub chain_length : length (chain n steps 0) + ones steps + 2 * twos steps ≡ 2 * n
  chain_length =
      omega (
        arith,
        length-total (chain n steps 0),
        total-chain n (λ o. 1) 1 1 1 (λ x s. refl) (λ x y s. refl) (λ x y z s. refl) (λ x y z s. refl) steps 0,
        width-counted steps,
      )

  pub lookahead-nets : net_count (lookahead n steps) ≤ 4 * n + 1
  unfolding net_count lookahead
  lookahead-nets = omega (arith, length-up_from (n + 1) (2 * n), chain-driven)

  pub lookahead-size : body_size (expanded_size carriers) (chain n steps 0) ≤ 6 * n
  lookahead-size = omega (arith, chain-size)

  -- Module 40: three gates a bit, and module 41.
  pub rows-total :
      (count : Occurrence → ℕ) (per_gate referred : ℕ)
      → ((kind net a b : ℕ) → is_gate kind ≡ true → count (gate_on net kind a b) ≡ per_gate)
      → count (carries_ahead n) ≡ referred
      → total count (fast_module n).occurrences ≡ n * per_gate + (n * per_gate + (referred + n * per_gate))
  unfolding fast_module total
  rows-total count per_gate referred at-gate at_module =
      simp total-append
      (omega (
        arith,
        total-row count XOR per_gate (λ net a b. at-gate XOR net a b refl) (3 * n + 1) (n + 1) (2 * n + 1) n,
        total-row count AND per_gate (λ net a b. at-gate AND net a b refl) (4 * n + 1) (n + 1) (2 * n + 1) n,
        total-row count XOR per_gate (λ net a b. at-gate XOR net a b refl) (5 * n + 1) (3 * n + 1) 0 n,
      ))

  gates-over : 2 * gate_count (fast_adder_over n steps) 40 + 5 * ones steps + 8 * twos steps ≡ 15 * n
  unfolding gate_count gate_weight fast_adder_over gates_of lookahead fast_module
  gates-over =
      let later = gate_weight (λ kind. 1) (after_first n steps) in
      omega (
        arith,
        weight_total later (fast_module n).occurrences,
        rows-total (gates_of later) 1 (later 41) (λ kind net a b is. rw is) refl,
        chain-gates,
      )

  size-over : expanded_size (fast_adder_over n steps) 40 + 3 * ones steps + 5 * twos steps ≡ 9 * n + 1
  unfolding expanded_size fast_adder_over visits lookahead fast_module
  size-over =
      let later = expanded_size (after_first n steps) in
      omega (
        arith,
        size-total later (fast_module n).occurrences,
        rows-total (visits later) 1 (suc (later 41)) (λ kind net a b is. rw is) refl,
        chain-size,
      )

  pub fast_length : length (fast_module n).occurrences ≡ 3 * n + 1
  fast_length =
      omega (arith, length-total (fast_module n).occurrences, rows-total (λ o. 1) 1 1 (λ kind net a b is. refl) refl)

  pub fast_nets : net_count (fast_module n) ≡ 6 * n + 1
  unfolding net_count fast_module
  fast_nets =
      omega (
        arith,
        length-up_from (n + 1) (2 * n),
        driven-total (fast_module n).occurrences,
        rows-total (λ o. length o.drives) 1 n (λ kind net a b is. refl) (length-up_from 1 n),
      )

  pub fast_body-size : body_size (expanded_size (after_first n steps)) (fast_module n).occurrences ≤ 9 * n + 1
  unfolding expanded_size fast_adder_over fast_module
  fast_body-size = omega (arith, size-over)

-- Room: the nets of module 40, and at most those of module 41 and of module 43.
pub either-most : (b : Bool) (x y most : ℕ) → x ≤ most → y ≤ most → cond b x y ≤ most
either-most true x y most x-by y-by = x-by
either-most false x y most x-by y-by = y-by

carriers-room : (x : ℕ) → room carriers x ≤ 8
unfolding room net_count driven largest_referred
carriers-room x = either-most (eqb x 43) 8 _ 8 (lit≤ tt) (either-most (eqb x 42) 5 0 8 (lit≤ tt) (lit≤ tt))

module _ (n : ℕ) (steps : List Step) (whole : width steps ≡ n) where
  pub inner_room : (x : ℕ) → room (after_first n steps) x ≤ 4 * n + 9
  unfolding room
  inner_room x =
      either-most (eqb x (lookahead n steps).number) _ _ (4 * n + 9)
      (omega (
        arith,
        lookahead-nets n steps whole,
        largest-within (room carriers) 8 carriers-room (lookahead n steps).occurrences,
      ))
      (omega (arith, carriers-room x))

  room-over : room (fast_adder_over n steps) 40 ≤ 10 * n + 10
  unfolding room fast_adder_over fast_module
  room-over =
      omega (
        arith,
        fast_nets n steps whole,
        largest-within (room (after_first n steps)) (4 * n + 9) inner_room (fast_module n).occurrences,
      )

-- Width n has at least one step.
pub some-step : (steps : List Step) → 1 ≤ width steps → 1 ≤ ones steps + twos steps
unfolding width ones twos
some-step [] some = omega arith
some-step (over_one x ∷ steps) some = omega arith
some-step (over_two x y ∷ steps) some = omega arith

-- Twice the gates, exactly; and at most.
pub fast_adder-gates : (n : ℕ) → 2 * gate_count (fast_adder n) 40 + 5 * ones (steps n) + 8 * twos (steps n) ≡ 15 * n
unfolding fast_adder
fast_adder-gates n = gates-over n (steps n) (steps-width n)

pub fast_adder-gates-most : (n : ℕ) → 1 ≤ n → gate_count (fast_adder n) 40 ≤ (15 * n - 5) / 2
fast_adder-gates-most n some =
    omega (arith, fast_adder-gates n, some-step (steps n) (omega (arith, steps-width n)))

pub fast_adder-size : (n : ℕ) → expanded_size (fast_adder n) 40 + 3 * ones (steps n) + 5 * twos (steps n) ≡ 9 * n + 1
unfolding fast_adder
fast_adder-size n = size-over n (steps n) (steps-width n)

pub fast_adder-room : (n : ℕ) → room (fast_adder n) 40 ≤ 10 * n + 10
unfolding fast_adder
fast_adder-room n = room-over n (steps n) (steps-width n)
