-- Gates that a module does not reach have no part in its arrivals: delays that agree on those that it reaches give the same.
use Rattle.std.specs.Prelude.{ℕ, ◌+◌, ◌≤◌, ◌≡◌, Bool, true, false, cond, eqb, replicate}
use Rattle.std.proofs.Math.Path.{refl, ap}
use mathlib.Core.List.{List, [], ◌∷◌, ◌++◌}
use Rattle.std.proofs.Common.{arith, eq-eqb}
use Rattle.meaning.specs.Syntax.{Occurrence, Module}
use Rattle.meaning.specs.Gates.{is_gate}
use Rattle.meaning.specs.Boxlist.{assoc}
use Rattle.meaning.specs.Evaluation.{Env, look_all, pairs, Meaning, apply, walk, run_module, run}
use Rattle.meaning.specs.Figures.{largest, body_weight, gate_weight, kind_count, gate_arrival, arrivals, input_count, delay_by}

-- One for a gate of the kind.
abbrev one_of : (kind other : ℕ) → ℕ
one_of kind other = cond (eqb other kind) 1 0

module _ (fast slow : ℕ → ℕ) where
  -- The delays agree on every gate that is counted.
  record AgreeOn (count : ℕ → ℕ) : Type 0 where
    agree : (kind : ℕ) → is_gate kind ≡ true → 1 ≤ count kind → fast kind ≡ slow kind

  fewer : {count more : ℕ → ℕ} → ((kind : ℕ) → count kind ≤ more kind) → AgreeOn more → AgreeOn count
  fewer le a = record { agree = λ kind gate reached. a.agree kind gate (omega (arith, le kind)) }

  module _ (ms : List Module) (below : (number : ℕ) → AgreeOn (λ kind. kind_count kind ms number) → (times : List ℕ) → arrivals fast ms number times ≡ arrivals slow ms number times) where
    occurrence-same :
        (number : ℕ) (b : Bool)
        → is_gate number ≡ b
        → AgreeOn (λ kind. cond b (one_of kind number) (kind_count kind ms number))
        → (times : List ℕ)
        → cond b (gate_arrival fast number times) (arrivals fast ms number times)
        ≡ cond b (gate_arrival slow number times) (arrivals slow ms number times)
    occurrence-same number true gate a times =
        let one : 1 ≤ one_of number number = rw (eq-eqb number number refl) (omega arith) in
        rw (a.agree number gate one)
    occurrence-same number false gate a times = below number a times

    walk_same :
        (os : List Occurrence) (env : Env ℕ)
        → AgreeOn (λ kind. body_weight (one_of kind) (kind_count kind ms) os)
        → walk 0 (gate_arrival fast) (arrivals fast ms) os env ≡ walk 0 (gate_arrival slow) (arrivals slow ms) os env
    unfolding walk body_weight
    walk_same [] env a = refl
    walk_same (o ∷ os) env a =
        rw (
          occurrence-same o.refers (is_gate o.refers) refl (fewer (λ kind. omega arith) a) (look_all 0 o.takes env),
          walk_same os _ (fewer (λ kind. omega arith) a),
        )

  either :
      (b : Bool) {count other : ℕ → ℕ} {x y x' y' : List ℕ}
      → AgreeOn (λ kind. cond b (count kind) (other kind))
      → (AgreeOn count → x ≡ x')
      → (AgreeOn other → y ≡ y')
      → cond b x y ≡ cond b x' y'
  either true a first second = first a
  either false a first second = second a

  arrivals-same :
      (ms : List Module) (number : ℕ)
      → AgreeOn (λ kind. kind_count kind ms number)
      → (times : List ℕ)
      → arrivals fast ms number times ≡ arrivals slow ms number times
  unfolding arrivals run run_module kind_count gate_weight
  arrivals-same [] number a times = refl
  arrivals-same (m ∷ ms) number a times =
      either (eqb number m.number) a
      (λ here. ap (look_all 0 m.outputs) (walk_same ms (arrivals-same ms) m.occurrences (pairs 0 m.inputs times) here))
      (λ further. arrivals-same ms number further times)

pub delay_by-of-reached :
    (fast slow : ℕ → ℕ) (ms : List Module) (number : ℕ)
    → ((kind : ℕ) → is_gate kind ≡ true → 1 ≤ kind_count kind ms number → fast kind ≡ slow kind)
    → delay_by fast ms number ≡ delay_by slow ms number
unfolding delay_by
delay_by-of-reached fast slow ms number same =
    ap largest (arrivals-same fast slow ms number (record { agree = same }) (replicate (input_count (assoc number ms)) 0))
