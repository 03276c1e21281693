-- The call of evaluation is answered exactly when none of its refusals applies, and writes the outputs' values; and what it tells that
-- a count or a writer is answered.
use Rattle.std.specs.Prelude.{ℕ, ◌≤◌, ◌≡◌, List, map, eqb, leb, length}
use Rattle.std.proofs.Common.{sym, ap, eq-eqb, eqb-true, le-leb, leb-true}
use Rattle.meaning.specs.Syntax.{Module}
use Rattle.meaning.specs.Values.{value, code}
use Rattle.meaning.specs.Layout.{encode}
use Rattle.meaning.specs.Evaluation.{evaluate}
use Rattle.meaning.specs.Figures.{room}
use Rattle.meaning.specs.Calls.{Written, Figures, answer, demand, first_above, evaluation_on, evaluation, figures_on, counting, writing}
use Rattle.laws.specs.Calls.{ModuleOf, module_met, asked_here, demand-met, same_answer}

-- On a module of an accepted file the call comes to what is asked of the module.
pub evaluation-on :
    {file : List ℕ} {number : ℕ} {ms : List Module} {m : Module} (values : List ℕ) (scratch out : ℕ)
    → ModuleOf file number ms m
    → evaluation file number values scratch out ≡ evaluation_on number values scratch out ms m
unfolding evaluation
evaluation-on {number = number} values scratch out here = asked_here (evaluation_on number values scratch out) here

-- None of the refusals applies: 1 to 17, 18, 19, 20, 21, 22.
pub record RunAnswerable (file : List ℕ) (number : ℕ) (values : List ℕ) (scratch out : ℕ) : Type 0 where
  pub ms : List Module
  pub m : Module
  pub here : ModuleOf file number ms m
  pub count : length values ≡ length m.inputs
  pub small : first_above values ≡ length values
  pub roomy : room ms number ≤ scratch
  pub fits : length m.outputs ≤ out

-- What a run of a list's module writes.
abbrev pub run_writes : (ms : List Module) (number : ℕ) (values : List ℕ) → Written
run_writes ms number values = record { bytes = map code (evaluate ms number (map value values)); cleared = room ms number }

pub run-answered :
    {file : List ℕ} {number : ℕ} {values : List ℕ} {scratch out : ℕ} (r : RunAnswerable file number values scratch out)
    → evaluation file number values scratch out ≡ answer (run_writes r.ms number values)
run-answered {file} {number} {values} {scratch} {out} r =
    rw (
      evaluation-on values scratch out r.here,
      eq-eqb (length values) (length r.m.inputs) r.count,
      eq-eqb (first_above values) (length values) r.small,
      le-leb (room r.ms number) scratch r.roomy,
      le-leb (length r.m.outputs) out r.fits,
    )

pub only-run-answered :
    (file : List ℕ) (number : ℕ) (values : List ℕ) (scratch out : ℕ) (w : Written)
    → evaluation file number values scratch out ≡ answer w
    → (r : RunAnswerable file number values scratch out) × (w ≡ run_writes r.ms number values)
unfolding evaluation
only-run-answered file number values scratch out w h =
    let a = module_met file number {ask = evaluation_on number values scratch out} h in
    let inputs = demand-met 19 0 (eqb (length values) (length a.m.inputs)) a.answered in
    let known = demand-met 20 (first_above values) (eqb (first_above values) (length values)) inputs.answered in
    let space = demand-met 21 0 (leb (room a.ms number) scratch) known.answered in
    let bytes = demand-met 22 0 (leb (length a.m.outputs) out) space.answered in (
      record {
        ms = a.ms;
        m = a.m;
        here = a.here;
        count = eqb-true _ _ inputs.met;
        small = eqb-true _ _ known.met;
        roomy = leb-true _ scratch space.met;
        fits = leb-true _ out bytes.met;
      },
      same_answer (sym bytes.answered),
    )

-- A count tells a module's own figures.
pub only-counted :
    (file : List ℕ) (number scratch : ℕ) (figures : Figures)
    → counting file number scratch ≡ answer figures
    → (ms : List Module) × (m : Module) × ModuleOf file number ms m × (figures ≡ figures_on number ms m)
unfolding counting
only-counted file number scratch figures h =
    let a = module_met file number {ask = λ ms m. demand 21 0 (leb (room ms number) scratch) (answer (figures_on number ms m))} h in
    let space = demand-met 21 0 (leb (room a.ms number) scratch) a.answered in
    (a.ms, a.m, a.here, same_answer (sym space.answered))

-- A writer tells its width and its file.
pub only-written :
    (modules : ℕ → List Module) (width out : ℕ) (w : Written)
    → writing modules width out ≡ answer w
    → (1 ≤ width) × (width ≤ 64) × (w.bytes ≡ encode (modules width))
unfolding writing
only-written modules width out w h =
    let some = demand-met 23 0 (leb 1 width) h in
    let most = demand-met 23 0 (leb width 64) some.answered in
    let fits = demand-met 22 0 (leb (length (encode (modules width))) out) most.answered in
    (leb-true 1 width some.met, leb-true width 64 most.met, ap (λ (u : Written). u.bytes) (same_answer (sym fits.answered)))

pub written :
    (modules : ℕ → List Module) (width : ℕ)
    → 1 ≤ width
    → width ≤ 64
    → (out : ℕ)
    → length (encode (modules width)) ≤ out
    → writing modules width out ≡ answer (record { bytes = encode (modules width); cleared = 0 })
unfolding writing
written modules width some most out fits =
    rw (le-leb 1 width some, le-leb width 64 most, le-leb (length (encode (modules width))) out fits)
