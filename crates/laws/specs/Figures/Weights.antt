-- Gates reached, counted with several weights at once: what holds of the weights of each gate, and is kept by adding up, holds of
-- the sums over all gates that a module reaches.
use Rattle.std.specs.Prelude.{ℕ, ◌+◌, ◌*◌, ◌≤◌, ◌≡◌, refl, Bool, eqb}
use Rattle.std.proofs.Math.Bool.{true, false, cond}
use mathlib.Core.List.{List, [], ◌∷◌}
use Rattle.std.proofs.Common.{mul-add, arith}
use Rattle.meaning.specs.Syntax.{Occurrence, Module}
use Rattle.meaning.specs.Gates.{is_gate}
use Rattle.meaning.specs.Figures.{body_weight, gate_weight, gate_count}

module _ {I : Type 0} (weight : I → ℕ → ℕ) (P : (I → ℕ) → Type 0) where
  -- The property is kept by adding up.
  pub record Adds : Type 0 where
    pub none : P (λ i. 0)
    pub both : (f g : I → ℕ) → P f → P g → P (λ i. f i + g i)
    pub one : (kind : ℕ) → is_gate kind ≡ true → P (λ i. weight i kind)

  either : (b : Bool) (f g : I → ℕ) → P f → P g → P (λ i. cond b (f i) (g i))
  either true f g p q = p
  either false f g p q = q

  body-weights :
      (later : I → ℕ → ℕ) (os : List Occurrence)
      → Adds
      → ((number : ℕ) → P (λ i. later i number))
      → P (λ i. body_weight (weight i) (later i) os)
  unfolding body_weight
  body-weights later [] adds below = adds.none
  body-weights later (o ∷ os) adds below =
      adds.both _ _ (first (is_gate o.refers) refl) (body-weights later os adds below)
    where
      first : (b : Bool) → is_gate o.refers ≡ b → P (λ i. cond b (weight i o.refers) (later i o.refers))
      first true g = adds.one o.refers g
      first false g = below o.refers

  pub weights_together : (ms : List Module) (number : ℕ) → Adds → P (λ i. gate_weight (weight i) ms number)
  unfolding gate_weight
  weights_together [] number adds = adds.none
  weights_together (m ∷ ms) number adds =
      either (eqb number m.number) _ _
      (body-weights (λ i. gate_weight (weight i) ms) m.occurrences adds (λ other. weights_together ms other adds))
      (weights_together ms number adds)

-- Where no gate weighs more than `most`, the weight is at most that many times the gate count.
pub weight_within :
    (weight : ℕ → ℕ) (most : ℕ)
    → ((kind : ℕ) → weight kind ≤ most)
    → (ms : List Module) (number : ℕ)
    → gate_weight weight ms number ≤ most * gate_count ms number
unfolding gate_count
weight_within weight most light ms number =
    weights_together (λ b. cond b (λ kind. 1) weight) (λ f. f false ≤ most * f true) ms number
    (record {
      none = omega arith;
      both = λ f g p q. omega (arith, mul-add most (f true) (g true));
      one = λ kind g. omega (arith, light kind);
    })
