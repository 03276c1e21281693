-- The call of flattening. It is answered exactly when none of its refusals applies; and wherever it is answered, the written
-- bytes are a file that the check accepts, of one module that is the same module.
use Rattle.std.specs.Prelude.{ℕ, ◌+◌, ◌≤◌, ◌≡◌, List, [], ◌∷◌, leb, length}
use Rattle.std.proofs.Common.{sym, subst, ◌∙◌, le-leb, leb-true}
use Rattle.meaning.specs.Syntax.{Module}
use Rattle.meaning.specs.Reading.{holds, read}
use Rattle.meaning.specs.Ceilings.{Bytes}
use Rattle.meaning.specs.Verdict.{good, verdict}
use Rattle.meaning.specs.Figures.{gate_count, room}
use Rattle.meaning.specs.Flattening.{flat_module}
use Rattle.meaning.specs.Calls.{Written, answer, flat_file, flattening_on, flattening}
use Rattle.laws.specs.Exactness.{exactness}
use Rattle.laws.specs.Calls.{ModuleOf, module_met, asked_here, demand-met, same_answer}
use Rattle.laws.specs.Flatten.Same.{SameModule, flat-is-same}
use Rattle.laws.specs.Flatten.Within.{flat-reads, flat-passes}
use Rattle.laws.specs.Flatten.Again.{flat-of-flat}

-- None of the refusals applies: 1 to 17, 18, 24, 21, 22.
pub record Answerable (file : List ℕ) (number scratch out : ℕ) : Type 0 where
  pub ms : List Module
  pub m : Module
  pub here : ModuleOf file number ms m
  pub few : length m.inputs + gate_count ms number ≤ 4096
  pub roomy : room ms number ≤ scratch
  pub fits : length (flat_file ms number m) ≤ out

-- What is then written.
abbrev pub writes : {file : List ℕ} {number scratch out : ℕ} → Answerable file number scratch out → Written
writes {number = number} a = record { bytes = flat_file a.ms number a.m; cleared = room a.ms number }

pub answered :
    {file : List ℕ} {number scratch out : ℕ} (a : Answerable file number scratch out)
    → flattening file number scratch out ≡ answer (writes a)
unfolding flattening
answered {file} {number} {scratch} {out} a =
    rw (
      asked_here (flattening_on number scratch out) a.here,
      le-leb (length a.m.inputs + gate_count a.ms number) 4096 a.few,
      le-leb (room a.ms number) scratch a.roomy,
      le-leb (length (flat_file a.ms number a.m)) out a.fits,
    )

pub only-answered :
    (file : List ℕ) (number scratch out : ℕ) (w : Written)
    → flattening file number scratch out ≡ answer w
    → Answerable file number scratch out
unfolding flattening
only-answered file number scratch out w h =
    let a = module_met file number {ask = flattening_on number scratch out} h in
    let nets = demand-met 24 0 (leb (length a.m.inputs + gate_count a.ms number) 4096) a.answered in
    let space = demand-met 21 0 (leb (room a.ms number) scratch) nets.answered in
    let bytes = demand-met 22 0 (leb (length (flat_file a.ms number a.m)) out) space.answered in
    record {
      ms = a.ms;
      m = a.m;
      here = a.here;
      few = leb-true _ 4096 nets.met;
      roomy = leb-true _ scratch space.met;
      fits = leb-true _ out bytes.met;
    }

-- The bytes of a file of one module, which the check accepts; it is the same module, and flattening it gives these bytes again.
pub record HoldsFlat (ms : List Module) (number : ℕ) (m : Module) (bytes : List ℕ) : Type 0 where
  pub flat : Module
  pub reads : read bytes ≡ holds (flat ∷ [])
  pub accepted : verdict bytes ≡ good
  pub same : SameModule ms number m flat
  pub again : flat_file (flat ∷ []) number flat ≡ bytes

answerable_flattens :
    (file : List ℕ) (number scratch out : ℕ)
    → Bytes file
    → (a : Answerable file number scratch out)
    → HoldsFlat a.ms number a.m (writes a).bytes
unfolding flat_file
answerable_flattens file number scratch out bytes a =
    let here = a.here in
    let within = (exactness file bytes a.ms here.reads).within in
    let same = flat-is-same a.ms number a.m here.accepted here.found in
    record {
      flat = flat_module a.ms number (length a.m.inputs);
      reads = flat-reads a.ms number a.m here.accepted here.found within a.few;
      accepted = flat-passes a.ms number a.m here.accepted here.found within a.few;
      same = same;
      again = rw (same.inputs, flat-of-flat a.ms number a.m here.accepted here.found);
    }

-- Wherever flattening is answered, what is written is the flattened module.
pub flattening-flattens :
    (file : List ℕ) (number scratch out : ℕ) (w : Written)
    → Bytes file
    → flattening file number scratch out ≡ answer w
    → (a : Answerable file number scratch out) × (writes a ≡ w) × HoldsFlat a.ms number a.m w.bytes
flattening-flattens file number scratch out w bytes h =
    let a = only-answered file number scratch out w h in
    let same = same_answer (sym (answered a) ∙ h) in
    (a, same, subst (λ (u : Written). HoldsFlat a.ms number a.m u.bytes) same (answerable_flattens file number scratch out bytes a))
