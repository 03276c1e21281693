-- Figures of the ALU that count its occurrences. Twice its gates are 27n + 52 and 12 for each copy of the lines, less 5 for each step
-- over one tree and 8 for each over two; its room is at most 12n + 53.
use Prim.Native.Nat.{ℕ, zero, suc, ◌+◌, ◌*◌, ◌-◌, ◌/◌, ◌≤◌}
use Rattle.std.specs.Prelude.{◌≡◌, refl, Bool, true, false, cond, List, eqb, leb}
use Rattle.std.proofs.Math.Nat.{suc-mul}
use Rattle.std.proofs.Common.{zero-mul}
use native.Mathlib.Omega.{arith}
use Rattle.std.proofs.Math.ListN.{length, length-append}
use Rattle.meaning.specs.Syntax.{Occurrence}
use Rattle.meaning.specs.Limits.{driven, net_count, body_size, expanded_size}
use Rattle.meaning.specs.Figures.{body_weight, gate_weight, gate_count, largest_referred, room}
use Rattle.meaning.specs.Adder.{up_from}
use Rattle.meaning.specs.Counter.{gate_on, XOR}
use Rattle.meaning.specs.FastAdder.{Step, lookahead, steps}
use Rattle.meaning.specs.Alu.{gate_on1, BUF, copy_row, copies, copy_count, b_net, carry_net, q_net, out_net, result_net, lines_net, controlled, carries_ahead, cell_at, cells, alu_module, alu_over, alu}
use Rattle.laws.specs.Bounds.{largest-within}
use Rattle.laws.specs.Adder.Nets.{length-up_from}
use Rattle.laws.specs.FastAdder.Signals.{width}
use Rattle.laws.specs.FastAdder.Shape.{steps-width}
use Rattle.laws.specs.FastAdder.Counting.{total, total-append, length-total, driven-total, visits, size-total, gates_of, weight_total, ones, twos, total-row}
use Rattle.laws.specs.FastAdder.Figures.{chain-gates, chain-size, either-most, inner_room, some-step}
use Rattle.laws.specs.Alu.Occurrences.{after_alu}

-- A count that is the same wherever an occurrence stands.
module _ (count : Occurrence → ℕ) (n copied per_copy per_gate per_cell : ℕ)
    (at_copy : (net a : ℕ) → count (gate_on1 net BUF a) ≡ per_copy)
    (at-gate : (net a b : ℕ) → count (gate_on net XOR a b) ≡ per_gate)
    (at-cell : (i : ℕ) → count (cell_at n copied i) ≡ per_cell) where
  total_copy_row : (net take m : ℕ) → total count (copy_row net take m) ≡ m * per_copy
  unfolding copy_row total
  total_copy_row net take zero = rw (zero-mul per_copy)
  total_copy_row net take (suc m) =
      simp suc-mul (omega (arith, at_copy net take, total_copy_row (suc net) (suc take) m))

  total-copies : (lines net m : ℕ) → total count (copies lines net m) ≡ m * (6 * per_copy)
  unfolding copies total
  total-copies lines net zero = rw (zero-mul (6 * per_copy))
  total-copies lines net (suc m) =
      simp (total-append, suc-mul) (omega (arith, total_copy_row net lines 6, total-copies lines (net + 6) m))

  total-cells : (i m : ℕ) → total count (cells n copied i m) ≡ m * per_cell
  unfolding cells total
  total-cells i zero = rw (zero-mul per_cell)
  total-cells i (suc m) = simp suc-mul (omega (arith, at-cell i, total-cells (suc i) m))

  pub alu-total :
      total count (alu_module n copied).occurrences
      ≡ count (controlled n) + copied * (6 * per_copy) + n * per_cell + count (carries_ahead n) + 2 * per_gate + n * per_gate
  unfolding alu_module total
  alu-total =
      simp total-append
      (omega (
        arith,
        total-copies (lines_net n) (lines_net n + 6) copied,
        total-cells 0 n,
        at-gate (out_net n) (3 * n + 6) (7 * n + 9),
        at-gate (suc (out_net n)) (3 * n + 6) (3 * n + 5),
        total-row count XOR per_gate at-gate (result_net n) (q_net n) (carry_net n) n,
      ))

module _ (n copied : ℕ) (steps : List Step) (whole : width steps ≡ n) where
  gates-over : 2 * gate_count (alu_over n copied steps) 48 + 5 * ones steps + 8 * twos steps ≡ 27 * n + 52 + 12 * copied
  unfolding gate_count gate_weight body_weight alu_over gates_of lookahead alu_module
  gates-over =
      let later = gate_weight (λ kind. 1) (after_alu n steps) in
      omega (
        arith,
        weight_total later (alu_module n copied).occurrences,
        alu-total (gates_of later) n copied 1 1 8 (λ net a. refl) (λ net a b. refl) (λ i. refl),
        chain-gates n steps whole,
      )

  pub alu-body-size : body_size (expanded_size (after_alu n steps)) (alu_module n copied).occurrences ≤ 16 * n + 28 + 6 * copied
  unfolding expanded_size body_size visits lookahead
  alu-body-size =
      let later = expanded_size (after_alu n steps) in
      omega (
        arith,
        size-total later (alu_module n copied).occurrences,
        alu-total (visits later) n copied 1 1 9 (λ net a. refl) (λ net a b. refl) (λ i. refl),
        chain-size n steps whole,
      )

  pub alu-length : length (alu_module n copied).occurrences ≡ 2 * n + 4 + 6 * copied
  alu-length =
      omega (
        arith,
        length-total (alu_module n copied).occurrences,
        alu-total (λ o. 1) n copied 1 1 1 (λ net a. refl) (λ net a b. refl) (λ i. refl),
      )

  pub alu-nets : net_count (alu_module n copied) ≡ 7 * n + 16 + 6 * copied
  unfolding net_count alu_module up_from
  alu-nets =
      omega (
        arith,
        length-append (up_from 0 (n + 1)) (up_from (b_net n) (n + 4)),
        length-up_from 0 (n + 1),
        length-up_from (b_net n) (n + 4),
        driven-total (alu_module n copied).occurrences,
        alu-total (λ o. length o.drives) n copied 1 1 3 (λ net a. refl) (λ net a b. refl) (λ i. refl),
        length-up_from (suc (carry_net n)) n,
      )

  later-room : (x : ℕ) → room (after_alu n steps) x ≤ 4 * n + 31
  unfolding room net_count driven largest_referred
  later-room x =
      either-most (eqb x 49) 31 _ (4 * n + 31) (omega arith)
      (either-most (eqb x 50) 17 _ (4 * n + 31) (omega arith) (omega (arith, inner_room n steps whole x)))

  room-over : room (alu_over n copied steps) 48 ≤ 11 * n + 47 + 6 * copied
  unfolding room alu_over alu_module
  room-over =
      omega (
        arith,
        alu-nets,
        largest-within (room (after_alu n steps)) (4 * n + 31) later-room (alu_module n copied).occurrences,
      )

-- At most a copy for each eight bits that are begun.
pub copies-most : (n : ℕ) → 8 * copy_count n ≤ n + 7
unfolding copy_count
copies-most n = go (leb n 8)
  where
    go : (b : Bool) → 8 * cond b 0 ((n + 7) / 8) ≤ n + 7
    go true = omega arith
    go false = omega arith

-- Twice the gates, exactly; and at most.
pub alu-gates : (n : ℕ) → 2 * gate_count (alu n) 48 + 5 * ones (steps n) + 8 * twos (steps n) ≡ 27 * n + 52 + 12 * copy_count n
unfolding alu
alu-gates n = gates-over n (copy_count n) (steps n) (steps-width n)

pub alu-gates-most : (n : ℕ) → 1 ≤ n → gate_count (alu n) 48 ≤ (57 * n + 115) / 4
alu-gates-most n some =
    omega (arith, alu-gates n, copies-most n, some-step (steps n) (omega (arith, steps-width n)))

pub alu-room : (n : ℕ) → room (alu n) 48 ≤ 12 * n + 53
unfolding alu
alu-room n = omega (arith, room-over n (copy_count n) (steps n) (steps-width n), copies-most n)
