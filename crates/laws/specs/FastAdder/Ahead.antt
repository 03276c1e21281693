-- Module 41 where another module refers to it: its nets hold what the nets of the other module hold, and its equations. For values of
-- any kind and whatever gates make of them.
use Prim.Native.Nat.{ℕ, zero, suc, ◌+◌, ◌*◌, ◌<◌, ◌≤◌}
use Rattle.std.specs.Prelude.{◌≡◌, List, ◌∷◌}
use Rattle.std.proofs.Common.{sym, ◌∙◌, add-zero}
use native.Mathlib.Omega.{arith}
use Rattle.meaning.specs.Evaluation.{Env, look, look_all, run_module, run}
use Rattle.meaning.specs.Adder.{up_from}
use Rattle.meaning.specs.FastAdder.{Step, lookahead}
use Rattle.laws.specs.OutputCount.{length-of-look_all}
use Rattle.laws.specs.Adder.Nets.{length-up_from}
use Rattle.laws.specs.Adder.Outputs.{one_output}
use Rattle.laws.specs.FastAdder.Equations.{Solved, solved}
use Rattle.laws.specs.FastAdder.Signals.{width}
use Rattle.laws.specs.FastAdder.Passing.{carriers}
use Rattle.laws.specs.FastAdder.Bodies.{inputs-distinct, lookahead-body}
use Rattle.laws.specs.FastAdder.Looks.{Chained, chain-looks}
use Rattle.laws.specs.FastAdder.RowEquations.{same_at}

module _ {A : Type 0} (unset : A) (gate_result : ℕ → List A → A) (n : ℕ) (steps : List Step) (outer : Env A) (carry bits : ℕ) where
  -- The carry in and the carries stand from `carry` on, all p and then all g from `bits` on.
  pub record Ahead : Type 0 where
    pub inner : ℕ → A
    pub inner_carry : (i : ℕ) → i ≤ n → inner i ≡ look unset (carry + i) outer
    pub inner_p : (i : ℕ) → i < n → inner (n + 1 + i) ≡ look unset (bits + i) outer
    pub inner_g : (i : ℕ) → i < n → inner (n + 1 + i + n) ≡ look unset (bits + n + i) outer
    pub chained : Chained gate_result n inner steps 0

  abbrev given : List A
  given = look_all unset (carry ∷ up_from bits (2 * n)) outer

  ahead_of :
      (inside : Solved unset gate_result carriers (lookahead n steps) given)
      → look_all unset (up_from (suc carry) n) outer ≡ look_all unset (up_from 1 n) inside.env
      → Ahead
  unfolding look_all lookahead
  ahead_of inside outputs =
      let at-carry : look unset 0 inside.env ≡ look unset carry outer = cc inside.inputs in
      let rows : look_all unset (up_from (n + 1) (2 * n)) inside.env ≡ look_all unset (up_from bits (2 * n)) outer = cc inside.inputs in
      let bit = same_at unset (n + 1) bits (2 * n) outer inside.env rows in
      record {
        inner = λ net. look unset net inside.env;
        inner_carry = carries at-carry;
        inner_p = λ i low. bit i (omega arith);
        inner_g = λ i low.
            let left : n + 1 + (n + i) ≡ n + 1 + i + n = omega arith in
            let right : bits + (n + i) ≡ bits + n + i = omega arith in
            rw (left, right) at (bit (n + i) (omega arith));
        chained = chain-looks unset gate_result n inside.env steps 0 inside.satisfied;
      }
    where
      carries : look unset 0 inside.env ≡ look unset carry outer → (i : ℕ) → i ≤ n
          → look unset i inside.env ≡ look unset (carry + i) outer
      carries first zero low = rw (add-zero carry) first
      carries first (suc i) low =
          let place : suc carry + i ≡ carry + suc i = omega arith in
          let inside-place : 1 + i ≡ suc i = omega arith in
          rw (place, inside-place) at (sym (same_at unset (suc carry) 1 n inside.env outer outputs i (omega arith)))

  pub ahead :
      width steps ≡ n
      → look_all unset (up_from (suc carry) n) outer
      ≡ run_module unset (one_output gate_result) (run unset (one_output gate_result) carriers) (lookahead n steps) given
      → Ahead
  unfolding lookahead
  ahead whole equation =
      let inside =
      solved unset gate_result carriers (lookahead n steps) given (inputs-distinct n) (lookahead-body n steps whole)
      (omega (
        arith,
        length-of-look_all unset (carry ∷ up_from bits (2 * n)) outer,
        length-up_from bits (2 * n),
        length-up_from (n + 1) (2 * n),
      ))
      in
      ahead_of inside (equation ∙ inside.outputs)
