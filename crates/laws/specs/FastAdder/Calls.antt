-- Over the calls: a run of the written propagate-generate adder comes to what a run of the written ripple adder of the same width comes
-- to on the same values, the same bytes or the same refusal, but for the scratch that each works in.
use Rattle.std.specs.Prelude.{ℕ, ◌+◌, ◌*◌, ◌≤◌, ◌≡◌, refl, Bool, true, false, List, [], ◌∷◌, map, eqb, leb, length}
use Rattle.std.proofs.Common.{sym, ◌∙◌, arith, length-append, eqb-true, le-leb}
use Rattle.std.proofs.lemmas.List.{length-map}
use Rattle.meaning.specs.Syntax.{Module}
use Rattle.meaning.specs.Values.{value, code}
use Rattle.meaning.specs.Boxlist.{box, assoc}
use Rattle.meaning.specs.Layout.{encode}
use Rattle.meaning.specs.Evaluation.{evaluate}
use Rattle.meaning.specs.Figures.{room}
use Rattle.meaning.specs.Adder.{up_from, ripple_adder, adder}
use Rattle.meaning.specs.FastAdder.{fast_module, fast_adder_over, fast_adder}
use Rattle.meaning.specs.Calls.{Decision, refusal, answer, demand, first_above, Written, evaluation_on, evaluation}
use Rattle.laws.specs.Calls.{ModuleOf}
use Rattle.laws.specs.Runs.{evaluation-on}
use Rattle.laws.specs.Adder.Nets.{length-up_from}
use Rattle.laws.specs.Adder.Figures.{adder-room}
use Rattle.laws.specs.Demands.KnownRuns.{module_of-written}
use Rattle.laws.specs.Demands.Writers.{adder_module, adder-inputs, adder-outputs-count}
use Rattle.laws.specs.FastAdder.File.{fast_adder-within, fast_adder-file-accepted}
use Rattle.laws.specs.FastAdder.Figures.{fast_adder-room}
use Rattle.laws.specs.FastAdder.Outputs.{fast_adder-is-ripple}

-- What a run comes to, with other scratch cleared.
abbrev pub clearing : ℕ → Decision Written → Decision Written
clearing cleared (refusal number place) = refusal number place
clearing cleared (answer w) = answer (record { bytes = w.bytes; cleared = cleared })

-- Two modules that give the same on their inputs, where each has the scratch that it needs.
runs-alike :
    (ms ms' : List Module) (number number' : ℕ) (m m' : Module) (values : List ℕ) (scratch scratch' out : ℕ)
    → length m.inputs ≡ length m'.inputs
    → length m.outputs ≡ length m'.outputs
    → room ms number ≤ scratch
    → room ms' number' ≤ scratch'
    → (length values ≡ length m'.inputs → evaluate ms number (map value values) ≡ evaluate ms' number' (map value values))
    → evaluation_on number values scratch out ms m
    ≡ clearing (room ms number) (evaluation_on number' values scratch' out ms' m')
runs-alike ms ms' number number' m m' values scratch scratch' out inputs outputs roomy roomy' same =
    rw (inputs, outputs, le-leb (room ms number) scratch roomy, le-leb (room ms' number') scratch' roomy')
    (counted (eqb (length values) (length m'.inputs)) refl)
  where
    rest : List ℕ → ℕ → Bool → Decision Written
    rest bytes cleared fits = demand 22 0 fits (answer (record { bytes = bytes; cleared = cleared }))

    fitting : (bytes : List ℕ) (cleared : ℕ) (fits : Bool)
        → rest bytes (room ms number) fits ≡ clearing (room ms number) (rest bytes cleared fits)
    fitting bytes cleared true = refl
    fitting bytes cleared false = refl

    small : (bytes : List ℕ) (cleared : ℕ) (passed fits : Bool)
        → demand 20 (first_above values) passed (rest bytes (room ms number) fits)
        ≡ clearing (room ms number) (demand 20 (first_above values) passed (rest bytes cleared fits))
    small bytes cleared true fits = fitting bytes cleared fits
    small bytes cleared false fits = refl

    counted :
        (b : Bool) → eqb (length values) (length m'.inputs) ≡ b
        → demand 19 0 b
        (demand 20 (first_above values) (eqb (first_above values) (length values))
        (rest (map code (evaluate ms number (map value values))) (room ms number) (leb (length m'.outputs) out)))
        ≡ clearing (room ms number)
        (demand 19 0 b
        (demand 20 (first_above values) (eqb (first_above values) (length values))
        (rest (map code (evaluate ms' number' (map value values))) (room ms' number') (leb (length m'.outputs) out))))
    counted true e =
        rw (same (eqb-true (length values) (length m'.inputs) e))
        (small (map code (evaluate ms' number' (map value values))) (room ms' number') (eqb (first_above values) (length values))
        (leb (length m'.outputs) out))
    counted false e = refl

fast_first : (n : ℕ) → assoc 40 (fast_adder n) ≡ box (fast_module n)
unfolding assoc fast_adder fast_adder_over fast_module
fast_first n = refl

pub fast-module : (n : ℕ) → 1 ≤ n → n ≤ 64 → ModuleOf (encode (fast_adder n)) 40 (fast_adder n) (fast_module n)
fast-module n least most =
    module_of-written (fast_adder n) (fast_adder-within n most) (fast_adder-file-accepted n least most) (fast_first n)

pub fast_inputs : (n : ℕ) → length (fast_module n).inputs ≡ 2 * n + 1
unfolding fast_module
fast_inputs n = omega (arith, length-up_from (n + 1) (2 * n))

pub fast_outputs : (n : ℕ) → length (fast_module n).outputs ≡ n + 1
unfolding fast_module
fast_outputs n = omega (arith, length-append (up_from (5 * n + 1) n) (n ∷ []), length-up_from (5 * n + 1) n)

pub fast_run-is-ripple-run :
    (n : ℕ) → 1 ≤ n → n ≤ 64
    → (values : List ℕ) (scratch scratch' out : ℕ)
    → 10 * n + 10 ≤ scratch
    → 4 * n + 13 ≤ scratch'
    → evaluation (encode (fast_adder n)) 40 values scratch out
    ≡ clearing (room (fast_adder n) 40) (evaluation (encode (adder n)) 18 values scratch' out)
fast_run-is-ripple-run n least most values scratch scratch' out roomy roomy' =
    rw (
      evaluation-on values scratch out (fast-module n least most),
      evaluation-on values scratch' out (adder_module n least most),
    )
    (runs-alike (fast_adder n) (adder n) 40 18 (fast_module n) (ripple_adder n) values scratch scratch' out
    (fast_inputs n ∙ sym (adder-inputs n))
    (fast_outputs n ∙ sym (adder-outputs-count n))
    (omega (arith, fast_adder-room n))
    (omega (arith, adder-room n least))
    (λ count. fast_adder-is-ripple n least (map value values) (length-map values value ∙ count ∙ adder-inputs n)))
