-- Delay is never above the gate count: an output arrives after the latest input by at most the delays of all gates reached. And
-- where no gate is faster, nothing arrives earlier. Nothing is asked of the list.
use Rattle.std.specs.Prelude.{ℕ, zero, suc, ◌+◌, ◌*◌, ◌≤◌, ◌≡◌, refl, Bool, true, false, eqb, replicate}
use Rattle.std.proofs.Math.Bool.{cond}
use mathlib.Core.List.Forall₂.{cons as more}
use mathlib.Core.List.Forall₂.{nil as none}
use mathlib.Core.List.{List, [], ◌∷◌, ◌++◌, append-nil, Forall₂}
use Rattle.std.proofs.Common.{le_refl}
use native.Mathlib.Omega.{arith}
use Rattle.meaning.specs.Syntax.{Occurrence, Module}
use Rattle.meaning.specs.Gates.{is_gate}
use Rattle.meaning.specs.Boxlist.{assoc}
use Rattle.meaning.specs.Evaluation.{Env, look, look_all, pairs, Meaning, apply, walk, run_module, run}
use Rattle.meaning.specs.Figures.{largest, body_weight, gate_weight, gate_count, gate_arrival, arrivals, input_count, delay_by, delay}
use Rattle.laws.specs.Related.{Respects, run-related}
use Rattle.laws.specs.Figures.Weights.{weight_within}

-- Every net has arrived by a time.
record By (time : ℕ) (env : Env ℕ) : Type 0 where
  arrived : (x : ℕ) → look 0 x env ≤ time

by-later : {s t : ℕ} {env : Env ℕ} → s ≤ t → By s env → By t env
by-later later h = record { arrived = λ x. omega (arith, h.arrived x) }

look_all-by : {t : ℕ} {env : Env ℕ} → By t env → (nets : List ℕ) → largest (look_all 0 nets env) ≤ t
unfolding look_all largest
look_all-by h [] = omega arith
look_all-by h (x ∷ nets) = omega (arith, h.arrived x, look_all-by h nets)

nothing-by : (t : ℕ) → By t []
unfolding look
nothing-by t = record { arrived = λ x. omega arith }

bind-by : {t : ℕ} {env : Env ℕ} (net time : ℕ) → time ≤ t → By t env → By t (record { net = net; value = time } ∷ env)
unfolding look
bind-by {t} {env} net time h by = record { arrived = λ x. go x (eqb x net) }
  where
    go : (x : ℕ) (b : Bool) → cond b time (look 0 x env) ≤ t
    go x true = h
    go x false = by.arrived x

pairs-by : {t : ℕ} {env : Env ℕ} (nets times : List ℕ) → largest times ≤ t → By t env → By t (pairs 0 nets times ++ env)
unfolding pairs largest
pairs-by [] times h by = by
pairs-by (net ∷ nets) [] h by = bind-by net 0 (omega arith) (pairs-by nets [] h by)
pairs-by (net ∷ nets) (time ∷ times) h by = bind-by net time (omega arith) (pairs-by nets times (omega arith) by)

inputs-by : (inputs times : List ℕ) → By (largest times) (pairs 0 inputs times)
inputs-by inputs times = rw append-nil at (pairs-by {env = []} inputs times (le_refl (largest times)) (nothing-by (largest times)))

-- What is referred to gives its values so much after its latest argument, or earlier.
record Takes (outputs : List ℕ → List ℕ) (most : ℕ) : Type 0 where
  takes : (times : List ℕ) → largest (outputs times) ≤ largest times + most

takes-either :
    (b : Bool) {f g : List ℕ → List ℕ} {s t : ℕ} → Takes f s → Takes g t → Takes (λ times. cond b (f times) (g times)) (cond b s t)
takes-either true h k = h
takes-either false h k = k

module _ (delays : ℕ → ℕ) where
  gate-takes : (kind : ℕ) → Takes (gate_arrival delays kind) (delays kind)
  unfolding largest
  gate-takes kind = record { takes = λ times. omega arith }

  module _ (later : Meaning ℕ) (most : ℕ → ℕ) (below : (number : ℕ) → Takes (later number) (most number)) where
    walk-by :
        (t : ℕ) (os : List Occurrence) (env : Env ℕ)
        → By t env
        → By (t + body_weight delays most os) (walk 0 (gate_arrival delays) later os env)
    unfolding walk body_weight
    walk-by t [] env by = by-later (omega arith) by
    walk-by t (o ∷ os) env by =
        let own = cond (is_gate o.refers) (delays o.refers) (most o.refers) in
        let times = look_all 0 o.takes env in
        let first = (takes-either (is_gate o.refers) (gate-takes o.refers) (below o.refers)).takes times in
        let driven : By (t + own) (pairs 0 o.drives (apply (gate_arrival delays) later o.refers times) ++ env)
        = pairs-by o.drives _ (omega (arith, look_all-by by o.takes)) (by-later (omega arith) by) in
        by-later (omega arith) (walk-by (t + own) os _ driven)

    module_takes :
        (m : Module) (times : List ℕ)
        → largest (run_module 0 (gate_arrival delays) later m times) ≤ largest times + body_weight delays most m.occurrences
    unfolding run_module
    module_takes m times =
        look_all-by (walk-by (largest times) m.occurrences _ (inputs-by m.inputs times)) m.outputs

  run-takes : (ms : List Module) (number : ℕ) → Takes (run 0 (gate_arrival delays) ms number) (gate_weight delays ms number)
  unfolding run gate_weight largest
  run-takes [] number = record { takes = λ times. omega arith }
  run-takes (m ∷ ms) number =
      let below = run-takes ms in
      takes-either (eqb number m.number)
      (record { takes = module_takes (run 0 (gate_arrival delays) ms) (gate_weight delays ms) below m })
      (below number)

largest-of-none : (n : ℕ) → largest (replicate n 0) ≡ 0
unfolding largest
largest-of-none zero = refl
largest-of-none (suc n) = omega (arith, largest-of-none n)

-- By any delays of the gates.
pub delay_by-below_weight : (delays : ℕ → ℕ) (ms : List Module) (number : ℕ) → delay_by delays ms number ≤ gate_weight delays ms number
unfolding delay_by arrivals
delay_by-below_weight delays ms number =
    let inputs = input_count (assoc number ms) in
    omega (arith, (run-takes delays ms number).takes (replicate inputs 0), largest-of-none inputs)

pub delay_by-below-gates :
    (delays : ℕ → ℕ) (most : ℕ)
    → ((kind : ℕ) → delays kind ≤ most)
    → (ms : List Module) (number : ℕ)
    → delay_by delays ms number ≤ most * gate_count ms number
delay_by-below-gates delays most fast ms number =
    omega (arith, delay_by-below_weight delays ms number, weight_within delays most fast ms number)

-- Unit delay.
pub delay-below-gates : (ms : List Module) (number : ℕ) → delay ms number ≤ gate_count ms number
unfolding delay gate_count
delay-below-gates ms number = delay_by-below_weight (λ kind. 1) ms number

-- Slower gates, later outputs.
pub largest-monotone : {xs ys : List ℕ} → Forall₂ ◌≤◌ xs ys → largest xs ≤ largest ys
unfolding largest
largest-monotone none = omega arith
largest-monotone (more h hs) = omega (arith, largest-monotone hs)

pub still : (times : List ℕ) → Forall₂ ◌≤◌ times times
still [] = none
still (t ∷ times) = more (le_refl t) (still times)

-- So gates that are slower keep every arrival as late or later,
pub gates_slower :
    (fast slow : ℕ → ℕ)
    → ((kind : ℕ) → fast kind ≤ slow kind)
    → Respects ◌≤◌ (gate_arrival fast) (gate_arrival slow)
gates_slower fast slow h = record { keeps = λ kind vs. more (later kind vs) none }
  where
    later : (kind : ℕ) {vs ws : List ℕ} → Forall₂ ◌≤◌ vs ws → fast kind + largest vs ≤ slow kind + largest ws
    later kind vs = omega (arith, h kind, largest-monotone vs)

-- and the delay as long or longer.
pub delay_by-monotone :
    (fast slow : ℕ → ℕ)
    → ((kind : ℕ) → fast kind ≤ slow kind)
    → (ms : List Module) (number : ℕ)
    → delay_by fast ms number ≤ delay_by slow ms number
unfolding delay_by arrivals
delay_by-monotone fast slow h ms number =
    largest-monotone ((run-related ◌≤◌ 0 0 (le_refl 0) (gates_slower fast slow h) ms).keeps number (still _))
