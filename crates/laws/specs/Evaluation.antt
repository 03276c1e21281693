-- Two runs (demand 3): where the second run's inputs agree with the first's at every input that the first knows, each output known
-- in the first has the same value in the second. Nothing is asked of the list.
use Rattle.std.specs.Prelude.{ℕ, zero, suc, ◌≡◌, refl, Bool, false, length}
use Rattle.std.proofs.Common.{ap, arith}
use mathlib.Core.List.Forall₂
use mathlib.Core.List.{List, [], ◌∷◌}
use Rattle.std.proofs.Math.Option.{some}
use Rattle.std.proofs.Math.ListN.{get_elem?}
use Rattle.meaning.specs.Syntax.{Module}
use Rattle.meaning.specs.Values.{Val, known, un}
use Rattle.meaning.specs.Evaluation.{gate_outputs, evaluate}
use Rattle.laws.specs.Fillings.{Keeps, any, same, Refines}
use Rattle.laws.specs.Gates.{gate-monotone}
use Rattle.laws.specs.Related.{Respects, run-related}

gates-keep : Respects Keeps gate_outputs gate_outputs
gates-keep = record { keeps = λ number refines. Forall₂.cons (gate-monotone number refines) Forall₂.nil }

-- Evaluation is monotone: as more inputs become known, known outputs stay.
pub evaluate-monotone :
    (ms : List Module) (number : ℕ) {vs ws : List Val}
    → Refines vs ws
    → Refines (evaluate ms number vs) (evaluate ms number ws)
unfolding evaluate
evaluate-monotone ms number = (run-related Keeps (known false) (known false) same gates-keep ms).keeps number

-- The second list has as many values as the first and agrees with it wherever the first is known.
pub record Agrees (first second : List Val) : Type 0 where
  pub same_count : length first ≡ length second
  pub where_known : (i : ℕ) (b : Bool) → get_elem? first i ≡ some (known b) → get_elem? second i ≡ some (known b)

pub refines_agrees : {vs ws : List Val} → Refines vs ws → Agrees vs ws
refines_agrees Forall₂.nil = record { same_count = refl; where_known = λ i b e. e }
refines_agrees (Forall₂.cons {l₁ = vs} {l₂ = ws} keeps rest) =
    let further = refines_agrees rest in
    record { same_count = ap suc further.same_count; where_known = at keeps further.where_known }
  where
    at :
        {v w : Val}
        → Keeps v w
        → ((i : ℕ) (b : Bool) → get_elem? vs i ≡ some (known b) → get_elem? ws i ≡ some (known b))
        → (i : ℕ) (b : Bool) → get_elem? (v ∷ vs) i ≡ some (known b) → get_elem? (w ∷ ws) i ≡ some (known b)
    at any further zero b e = cc
    at same further zero b e = e
    at any further (suc i) b e = further i b e
    at same further (suc i) b e = further i b e

pub agrees_refines : (vs ws : List Val) → Agrees vs ws → Refines vs ws
agrees_refines [] [] a = Forall₂.nil
agrees_refines [] (w ∷ ws) a = absurd (omega (arith, a.same_count))
agrees_refines (v ∷ vs) [] a = absurd (omega (arith, a.same_count))
agrees_refines (v ∷ vs) (w ∷ ws) a =
    Forall₂.cons (head v (a.where_known 0))
    (agrees_refines vs ws (record { same_count = omega (arith, a.same_count); where_known = λ i. a.where_known (suc i) }))
  where
    head : (v : Val) → ((b : Bool) → some v ≡ some (known b) → some w ≡ some (known b)) → Keeps v w
    head un h = any
    head (known b) h = let e : w ≡ known b = cc (h b refl) in rw e same

pub two_runs :
    (ms : List Module) (number : ℕ) (vs ws : List Val)
    → Agrees vs ws
    → Agrees (evaluate ms number vs) (evaluate ms number ws)
two_runs ms number vs ws agrees = refines_agrees (evaluate-monotone ms number (agrees_refines vs ws agrees))
