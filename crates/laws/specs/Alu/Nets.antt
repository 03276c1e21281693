-- The nets of module 48 when it is run on some values, by what equations they hold. For values of any kind and whatever gates make of
-- them: what the ALU computes and when it arrives both follow.
use Rattle.std.specs.Prelude.{ℕ, suc, ◌+◌, ◌*◌, ◌-◌, ◌<◌, ◌≤◌, ◌≡◌, length}
use Rattle.std.proofs.Math.Path.{refl}
use mathlib.Core.List.{List, [], ◌∷◌, append-nil}
use native.Mathlib.Omega.{arith}
use Rattle.std.proofs.Math.ListN.{length-append}
use Rattle.meaning.specs.Evaluation.{Env, look_all, run}
use Rattle.meaning.specs.Adder.{up_from}
use Rattle.meaning.specs.Counter.{XOR}
use Rattle.meaning.specs.FastAdder.{Step, gate_row, lookahead}
use Rattle.meaning.specs.Alu.{b_net, carry_net, p_net, q_net, out_net, result_net, flip_net, lines_net, alu_module, alu_over}
use Rattle.laws.specs.Adder.Nets.{length-up_from}
use Rattle.laws.specs.Adder.Outputs.{one_output}
use Rattle.laws.specs.FastAdder.Equations.{Solved, solved}
use Rattle.laws.specs.FastAdder.Signals.{width}
use Rattle.laws.specs.FastAdder.Looks.{first, after}
use Rattle.laws.specs.FastAdder.RowEquations.{gate-equation, row_equations}
use Rattle.laws.specs.FastAdder.Ahead.{Ahead, ahead}
use Rattle.laws.specs.Alu.Signals.{inputs}
use Rattle.laws.specs.Alu.Occurrences.{after_alu, inputs-distinct}
use Rattle.laws.specs.Alu.Bodies.{alu-body}
use Rattle.laws.specs.Alu.Cells.{at, Control, control-holds, copies_hold, Cell, cells-hold}

module _ {A : Type 0} (unset : A) (gate_result : ℕ → List A → A) (n copied : ℕ) (steps : List Step) where
  pub record Nets (vs : List A) : Type 0 where
    pub env : Env A
    pub given : look_all unset (inputs n) env ≡ vs
    pub control : Control unset gate_result n copied steps env
    pub cells_hold : (i : ℕ) → i < n → Cell unset gate_result n copied steps env i
    pub carries : Ahead unset gate_result n steps env (carry_net n) (p_net n)
    pub carry : at unset gate_result n copied steps env (out_net n) ≡ gate_result XOR (at unset gate_result n copied steps env (3 * n + 6) ∷ at unset gate_result n copied steps env (flip_net n) ∷ [])
    pub overflow : at unset gate_result n copied steps env (suc (out_net n)) ≡ gate_result XOR (at unset gate_result n copied steps env (3 * n + 6) ∷ at unset gate_result n copied steps env (3 * n + 5) ∷ [])
    pub result : (i : ℕ) → i < n
        → at unset gate_result n copied steps env (result_net n + i) ≡ gate_result XOR (at unset gate_result n copied steps env (q_net n + i) ∷ at unset gate_result n copied steps env (carry_net n + i) ∷ [])
    pub outputs :
        run unset (one_output gate_result) (alu_over n copied steps) 48 vs ≡ look_all unset (up_from (out_net n) (n + 2)) env

  nets-of :
      {vs : List A} → width steps ≡ n → Solved unset gate_result (after_alu n steps) (alu_module n copied) vs → Nets vs
  unfolding alu_module alu_over run lookahead
  nets-of whole held =
      let env = held.env in
      let later = after_alu n steps in
      let all = held.satisfied in
      let (copied-lines, after-copies) = copies_hold unset gate_result n copied steps env (lines_net n) (lines_net n + 6) copied _ (after all) in
      let (cell, after-cells) = cells-hold unset gate_result n copied steps env copied-lines 0 n _ after-copies in
      let at_ahead = first after-cells in
      let after-ahead = after after-cells in
      let (results, past) =
      row_equations unset gate_result later env XOR refl (result_net n) (q_net n) (carry_net n) n []
      (rw (← append-nil (gate_row XOR (result_net n) (q_net n) (carry_net n) n)) at (after (after after-ahead)))
      in
      record {
        env = env;
        given = held.inputs;
        control = control-holds unset gate_result n copied steps env (first all);
        cells_hold = λ i low. cell i (omega arith) (omega arith);
        carries = ahead unset gate_result n steps env (carry_net n) (p_net n) whole at_ahead.equation;
        carry = gate-equation unset gate_result later env XOR refl (out_net n) (3 * n + 6) (flip_net n) (first after-ahead);
        overflow =
            gate-equation unset gate_result later env XOR refl (suc (out_net n)) (3 * n + 6) (3 * n + 5) (first (after after-ahead));
        result = results;
        outputs = held.outputs;
      }

  pub nets : 1 ≤ n → width steps ≡ n → (vs : List A) → length vs ≡ 2 * n + 5 → Nets vs
  unfolding alu_module
  nets some whole vs fits =
      nets-of whole
      (solved unset gate_result (after_alu n steps) (alu_module n copied) vs (inputs-distinct n) (alu-body n copied steps some)
      (omega (
        arith,
        length-append (up_from 0 (n + 1)) (up_from (b_net n) (n + 4)),
        length-up_from 0 (n + 1),
        length-up_from (b_net n) (n + 4),
      )))
