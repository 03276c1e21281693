-- The nets of modules 40 and 41 when module 40 is run on some values, by what equations they hold. For values of any kind and whatever
-- gates make of them: what the adder computes and when it arrives both follow.
use Rattle.std.specs.Prelude.{ℕ, ◌+◌, ◌*◌, ◌<◌, ◌≤◌, ◌≡◌, length}
use Rattle.std.proofs.Math.Path.{refl}
use Rattle.std.proofs.Common.{◌∙◌, zero-add}
use mathlib.Core.List.{List, [], ◌∷◌, ◌++◌, append-nil}
use native.Mathlib.Omega.{arith}
use Rattle.meaning.specs.Evaluation.{Env, look, look_all, run}
use Rattle.meaning.specs.Adder.{up_from}
use Rattle.meaning.specs.Counter.{AND, XOR}
use Rattle.meaning.specs.FastAdder.{Step, gate_row, lookahead, fast_module, fast_adder_over}
use Rattle.laws.specs.Adder.Nets.{length-up_from}
use Rattle.laws.specs.Adder.Outputs.{one_output}
use Rattle.laws.specs.FastAdder.Equations.{Solved, solved}
use Rattle.laws.specs.FastAdder.Signals.{width}
use Rattle.laws.specs.FastAdder.Bodies.{inputs-distinct, after_first, fast_body}
use Rattle.laws.specs.FastAdder.Looks.{first, after, Chained}
use Rattle.laws.specs.FastAdder.RowEquations.{row_equations}
use Rattle.laws.specs.FastAdder.Ahead.{ahead}

module _ {A : Type 0} (unset : A) (gate_result : ℕ → List A → A) (n : ℕ) (steps : List Step) where
  -- The nets of module 40 hold `env`, those of module 41 `inner`.
  pub record Nets (vs : List A) : Type 0 where
    pub env : Env A
    pub inner : ℕ → A
    pub inputs : look_all unset (0 ∷ up_from (n + 1) (2 * n)) env ≡ vs
    pub bit_p : (i : ℕ) → i < n
        → look unset (3 * n + 1 + i) env ≡ gate_result XOR (look unset (n + 1 + i) env ∷ look unset (2 * n + 1 + i) env ∷ [])
    pub bit_g : (i : ℕ) → i < n
        → look unset (4 * n + 1 + i) env ≡ gate_result AND (look unset (n + 1 + i) env ∷ look unset (2 * n + 1 + i) env ∷ [])
    pub sum : (i : ℕ) → i < n
        → look unset (5 * n + 1 + i) env ≡ gate_result XOR (look unset (3 * n + 1 + i) env ∷ look unset i env ∷ [])
    pub inner_carry : (i : ℕ) → i ≤ n → inner i ≡ look unset i env
    pub inner_p : (i : ℕ) → i < n → inner (n + 1 + i) ≡ look unset (3 * n + 1 + i) env
    pub inner_g : (i : ℕ) → i < n → inner (n + 1 + i + n) ≡ look unset (4 * n + 1 + i) env
    pub chained : Chained gate_result n inner steps 0
    pub outputs :
        run unset (one_output gate_result) (fast_adder_over n steps) 40 vs ≡ look_all unset (up_from (5 * n + 1) n ++ (n ∷ [])) env

  nets-of :
      {vs : List A} (outer : Solved unset gate_result (after_first n steps) (fast_module n) vs)
      → width steps ≡ n
      → Nets vs
  unfolding fast_module fast_adder_over run lookahead
  nets-of {vs} outer whole =
      let env = outer.env in
      let later = after_first n steps in
      let (p, after-p) =
      row_equations unset gate_result later env XOR refl (3 * n + 1) (n + 1) (2 * n + 1) n _ outer.satisfied
      in
      let (g, after-g) = row_equations unset gate_result later env AND refl (4 * n + 1) (n + 1) (2 * n + 1) n _ after-p in
      let a = ahead unset gate_result n steps env 0 (3 * n + 1) whole (first after-g).equation in
      let (s, after-s) =
      row_equations unset gate_result later env XOR refl (5 * n + 1) (3 * n + 1) 0 n []
      (rw (← append-nil (gate_row XOR (5 * n + 1) (3 * n + 1) 0 n)) at (after after-g))
      in
      let second : (i : ℕ) → 3 * n + 1 + n + i ≡ 4 * n + 1 + i = λ i. omega arith in
      record {
        env = env;
        inner = a.inner;
        inputs = outer.inputs;
        bit_p = p;
        bit_g = g;
        sum = λ i low. s i low ∙ rw (zero-add i);
        inner_carry = λ i low. a.inner_carry i low ∙ rw (zero-add i);
        inner_p = a.inner_p;
        inner_g = λ i low. a.inner_g i low ∙ rw (second i);
        chained = a.chained;
        outputs = outer.outputs;
      }

  pub nets : 1 ≤ n → width steps ≡ n → (vs : List A) → length vs ≡ 2 * n + 1 → Nets vs
  unfolding fast_module
  nets some whole vs fits =
      nets-of
      (solved unset gate_result (after_first n steps) (fast_module n) vs (inputs-distinct n) (fast_body n steps whole some)
      (omega (arith, length-up_from (n + 1) (2 * n))))
      whole
