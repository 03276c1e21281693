-- Evaluators that the promise shuts out (document 01, 'Settled by the promises'). For each there are an accepted file, a module in
-- it and as many values as it has inputs, on which it gives something else than evaluation; the file is the adder of width 1. An
-- evaluator that refuses every unknown bit gives no values at all: what shuts it out is the promise of the call.
use Rattle.std.specs.Prelude.{ℕ, ◌≡◌, refl, Bool, true, false, ◌&&◌, cond, List, [], ◌∷◌, map, eqb, length, take, get_or}
use Rattle.std.proofs.Common.{ap}
use Rattle.std.proofs.lemmas.Bool.{eqb-false}
use Rattle.meaning.specs.Syntax.{Module}
use Rattle.meaning.specs.Values.{Val, known, un, code, by_fillings}
use Rattle.meaning.specs.Gates.{gate, gates, gate_value}
use Rattle.meaning.specs.Boxlist.{box, assoc, member, disjoint, duplicates, subset, arity_okp}
use Rattle.meaning.specs.Limits.{driven, net_count, body_size, expanded_size}
use Rattle.meaning.specs.Verdict.{good, occurrence_verdict, body_verdict, module_verdict, modules_verdict, sizes_verdict, file_verdict}
use Rattle.meaning.specs.Evaluation.{Meaning, look, look_all, pairs, walk, run_module, run, gate_outputs, evaluate}
use Rattle.meaning.specs.Adder.{up_from, adder_cells, ripple_adder, half_adder, adder}

-- A call that no rule refuses, on which an evaluator does not give what evaluation gives.
pub record Differs (wrong : List Module → Meaning Val) : Type 0 where
  pub file : List Module
  pub called : Module
  pub values : List Val
  pub accepted : file_verdict file ≡ good
  pub found : assoc called.number file ≡ box called
  pub count : length values ≡ length called.inputs
  pub differs : ¬ (wrong file called.number values ≡ evaluate file called.number values)

-- It gives 2 everywhere.
abbrev pub unknown_everywhere : List Module → Meaning Val
unknown_everywhere ms number vs = map (λ v. un) (evaluate ms number vs)

abbrev pub is_known : Val → Bool
is_known (known b) = true
is_known un = false

abbrev pub all_known : List Val → Bool
all_known [] = true
all_known (v ∷ vs) = is_known v && all_known vs

-- It gives 2 as soon as one input is unknown.
abbrev pub unknown_at_once : List Module → Meaning Val
unknown_at_once ms number vs = cond (all_known vs) (evaluate ms number vs) (unknown_everywhere ms number vs)

abbrev pub first_occurrence : Module → Module
first_occurrence m = record { number = m.number; inputs = m.inputs; outputs = m.outputs; occurrences = take 1 m.occurrences }

-- It runs the first occurrence and marks the rest unknown.
abbrev pub first_only : List Module → Meaning Val
first_only ms = run un gate_outputs (map first_occurrence ms)

-- What an evaluator gives at an output of the half adder: 0, 1 or 2.
abbrev code_at : (List Module → Meaning Val) → (v w : Val) → (output : ℕ) → ℕ
code_at evaluator v w output = code (get_or (evaluator (adder 1) 16 (v ∷ w ∷ [])) output un)

-- A call of the half adder shows it.
on-half-adder :
    (wrong : List Module → Meaning Val) (v w : Val) (output : ℕ)
    → eqb (code_at wrong v w output) (code_at evaluate v w output) ≡ false
    → Differs wrong
unfolding
    adder ripple_adder adder_cells up_from file_verdict modules_verdict module_verdict body_verdict occurrence_verdict sizes_verdict assoc
    member disjoint duplicates subset arity_okp driven net_count body_size expanded_size gate gates
on-half-adder wrong v w output apart =
    record {
      file = adder 1;
      called = half_adder;
      values = v ∷ w ∷ [];
      accepted = refl;
      found = refl;
      count = refl;
      differs = λ e. eqb-false _ _ apart (ap (λ (vs : List Val). code (get_or vs output un)) e);
    }

pub unknown_everywhere_is-wrong : Differs unknown_everywhere
unfolding adder ripple_adder evaluate run run_module walk look_all look pairs gate_value by_fillings gate gates
unknown_everywhere_is-wrong = on-half-adder unknown_everywhere (known false) (known false) 0 refl

pub unknown_at-once-is-wrong : Differs unknown_at_once
unfolding adder ripple_adder evaluate run run_module walk look_all look pairs gate_value by_fillings gate gates
unknown_at-once-is-wrong = on-half-adder unknown_at_once (known false) un 1 refl

pub first-only-is-wrong : Differs first_only
unfolding adder ripple_adder evaluate run run_module walk look_all look pairs gate_value by_fillings gate gates
first-only-is-wrong = on-half-adder first_only (known false) (known false) 1 refl
