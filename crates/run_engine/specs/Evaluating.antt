-- What `evaluate` answers on the resolved file is what the file means: the codes of the outputs' values.
use Rattle.std.specs.Prelude.{ℕ, ◌≡◌, refl, false, length, drop}
use Rattle.std.proofs.Common.{ap, ap₂, ◌∙◌}
use mathlib.Core.List.Forall₂
use mathlib.Core.List.{List, [], ◌∷◌, ◌++◌, map}
use Rattle.std.proofs.lemmas.List.{length-map}
use Rattle.meaning.specs.Syntax.{Module}
use Rattle.meaning.specs.Values.{Val, known, value, code}
use Rattle.meaning.specs.Gates.{gate_value, gate_code}
use Rattle.meaning.specs.Boxlist.{box, assoc}
use Rattle.meaning.specs.Evaluation.{run, gate_outputs, evaluate}
use Rattle.laws.specs.WellFormed.{Accepted}
use Rattle.laws.specs.Related.{Respects}
use Rattle.image.specs.Resolved.{position_of, resolve}
use Rattle.image.specs.Fitting.{accepted-fits}
use Rattle.image.specs.FramesMean.{frames_mean}
use Rattle.gates.specs.ThreeValues.{value-of-code}
use Rattle.run_walk.specs.Work.{meaning_of}
use Rattle.run_walk.specs.Valuing.{value_work}
use Rattle.run_engine.specs.Slots.{entered}
use Rattle.run_engine.specs.Calls.{answers, Evaluated}
use Rattle.run_engine.specs.Mapped.{Mapped, mapped-is, run-mapped}

values-of_codes : (vs : List Val) → map value (map code vs) ≡ vs
values-of_codes [] = refl
values-of_codes (v ∷ vs) = ap₂ ◌∷◌ (value-of-code v) (values-of_codes vs)

inputs_coded : (xs : List ℕ) → map entered xs ≡ map code (map value xs)
unfolding entered
inputs_coded [] = refl
inputs_coded (x ∷ xs) = ap (λ (l : List ℕ). code (value x) ∷ l) (inputs_coded xs)

gates_coded : Respects (Mapped code) (meaning_of value_work) gate_outputs
unfolding gate_code
gates_coded =
    record {
      keeps = λ number {vs} {ws} related.
          Forall₂.cons
          (ap (λ (l : List ℕ). gate_code number l) (mapped-is code related) ∙ ap (λ (l : List Val). code (gate_value number l)) (values-of_codes ws))
          Forall₂.nil;
    }

-- The module of a number, at its position in the resolved file, on inputs of any numbers.
pub evaluated :
    {ms : List Module}
    → Accepted ms
    → (number : ℕ) (m : Module)
    → assoc number ms ≡ box m
    → (values : List ℕ)
    → length values ≡ length m.inputs
    → answers value_work (resolve ms) (position_of number ms) (map entered values) ≡ map code (evaluate ms number (map value values))
unfolding evaluate
evaluated {ms} accepted number m found values count =
    frames_mean 0 (meaning_of value_work) (λ kind xs h. refl) (accepted-fits accepted) number m found (map entered values) (length-map values entered ∙ count)
    ∙ ap (run 0 (meaning_of value_work) ms number) (inputs_coded values)
    ∙ run-mapped code (known false) gates_coded ms number (map value values)

-- What is promised of the buffer, said of the file.
pub evaluate-means :
    {ms : List Module}
    → Accepted ms
    → (number : ℕ) (m : Module)
    → assoc number ms ≡ box m
    → {given : ℕ} {values scratch out scratch' out' : List ℕ}
    → length values ≡ length m.inputs
    → Evaluated (resolve ms) (position_of number ms) given values scratch out scratch' out'
    → let outputs = map code (evaluate ms number (map value values)) in
    out' ≡ outputs ++ drop (length outputs) out
evaluate-means accepted number m found {values = values} {out = out} count e =
    e.outputs ∙ ap (λ (l : List ℕ). l ++ drop (length l) out) (evaluated accepted number m found values count)
