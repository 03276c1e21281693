-- Runs of a flattened file beside runs of the file that it was made of.
use Rattle.std.specs.Prelude.{ℕ, ◌≤◌, ◌≡◌, refl, Bool, true, false, List, [], ◌∷◌, map, eqb, leb, length}
use Rattle.std.proofs.Common.{sym, ap, ◌∙◌, eq-eqb, eqb-true, le-leb}
use Rattle.std.proofs.lemmas.List.{length-map}
use Rattle.meaning.specs.Syntax.{Module}
use Rattle.meaning.specs.Values.{value, code}
use Rattle.meaning.specs.Boxlist.{box, assoc}
use Rattle.meaning.specs.Ceilings.{Bytes}
use Rattle.meaning.specs.Verdict.{verdict_of, verdict}
use Rattle.meaning.specs.Figures.{room}
use Rattle.meaning.specs.Calls.{Written, Figures, answer, demand, first_above, evaluation_on, flattening, figures_on, counting}
use Rattle.laws.specs.Calls.{ModuleOf}
use Rattle.laws.specs.Runs.{only-counted}
use Rattle.laws.specs.Flatten.Same.{SameModule}
use Rattle.laws.specs.Flatten.Answered.{flattening-flattens}
use Rattle.laws.specs.Demands.Terms.{outputs}

-- The module that was flattened, and its flattening.
pub record Flattens (file : List ℕ) (number : ℕ) (bytes : List ℕ) : Type 0 where
  pub ms : List Module
  pub m : Module
  pub flat : Module
  pub here : ModuleOf file number ms m
  pub there : ModuleOf bytes number (flat ∷ []) flat
  pub same : SameModule ms number m flat

pub flattens :
    (file : List ℕ) (number scratch out : ℕ) (w : Written)
    → Bytes file
    → flattening file number scratch out ≡ answer w
    → Flattens file number w.bytes
unfolding verdict assoc
flattens file number scratch out w bytes h =
    let all = flattening-flattens file number scratch out w bytes h in
    let a = all.0 in
    let f = all.2 in
    record {
      ms = a.ms;
      m = a.m;
      flat = f.flat;
      here = a.here;
      there =
          record {
            reads = f.reads;
            accepted = sym (ap verdict_of f.reads) ∙ f.accepted;
            found = rw (eq-eqb number f.flat.number (sym f.same.named));
          };
      same = f.same;
    }

-- Two modules of one file are the same.
pub one_module :
    {file : List ℕ} {number : ℕ} {ms ns : List Module} {m n : Module}
    → ModuleOf file number ms m
    → ModuleOf file number ns n
    → (ms ≡ ns) × (m ≡ n)
one_module {ms = ms} {ns} {m} {n} h k =
    let same : ms ≡ ns = cc in
    let found : box m ≡ box n = sym h.found ∙ ap (assoc _) same ∙ k.found in
    (same, (cc))

-- What a count answers of a module, for who knows the module.
pub counted-here :
    {file : List ℕ} {number : ℕ} {ms : List Module} {m : Module} (scratch : ℕ) (figures : Figures)
    → ModuleOf file number ms m
    → counting file number scratch ≡ answer figures
    → figures ≡ figures_on number ms m
counted-here {file} {number} scratch figures here h =
    let c = only-counted file number scratch figures h in
    let same = one_module c.2 here in
    c.3 ∙ rw (same.0, same.1)

-- Two runs that pass the same tests, and write the same bytes where they have the count of values that both ask for.
same-outputs :
    (count small fits : Bool) (place : ℕ) (w v : Written)
    → (count ≡ true → w.bytes ≡ v.bytes)
    → outputs (demand 19 0 count (demand 20 place small (demand 22 0 fits (answer w))))
    ≡ outputs (demand 19 0 count (demand 20 place small (demand 22 0 fits (answer v))))
same-outputs false small fits place w v same = refl
same-outputs true false fits place w v same = refl
same-outputs true true false place w v same = refl
same-outputs true true true place w v same = ap answer (same refl)

pub flat-run :
    {ms : List Module} {number : ℕ} {m flat : Module} (values : List ℕ) (scratch scratch' out : ℕ)
    → SameModule ms number m flat
    → room ms number ≤ scratch
    → room (flat ∷ []) number ≤ scratch'
    → outputs (evaluation_on number values scratch' out (flat ∷ []) flat) ≡ outputs (evaluation_on number values scratch out ms m)
flat-run {ms} {number} {m} {flat} values scratch scratch' out same roomy roomy' =
    rw (
      same.inputs,
      same.outputs,
      le-leb (room (flat ∷ []) number) scratch' roomy',
      le-leb (room ms number) scratch roomy,
    )
    (same-outputs (eqb (length values) (length m.inputs)) (eqb (first_above values) (length values)) (leb (length m.outputs) out)
    (first_above values) _ _
    (λ counted.
    ap (map code) (same.evaluates (map value values) (length-map values value ∙ eqb-true (length values) (length m.inputs) counted))))
