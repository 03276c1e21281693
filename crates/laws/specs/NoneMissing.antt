-- In an accepted file none is missing: what a net reads as that nothing gave a value, and what a gate makes of too few or too many
-- arguments, never matters. So the default of EVAL-NAME and PAIRLIST and ours cannot hide a difference.
use Rattle.std.specs.Prelude.{ℕ, ◌≢◌, ◌≡◌, Bool, true, false}
use Rattle.std.proofs.Math.Path.{refl, ap, ap₂}
use Rattle.std.proofs.Common.{sym, ◌∙◌, arith}
use Rattle.std.proofs.Math.Bool.{cond}
use mathlib.Core.List.{List, [], ◌∷◌, ◌++◌, append-nil}
use Rattle.std.proofs.Math.ListN.{length}
use Rattle.meaning.specs.Syntax.{Occurrence, Module}
use Rattle.meaning.specs.Values.{Val, known}
use Rattle.meaning.specs.Gates.{is_gate, gate, gate_value}
use Rattle.meaning.specs.Members.{◌∈◌}
use Rattle.meaning.specs.Boxlist.{box, assoc}
use Rattle.meaning.specs.Limits.{driven}
use Rattle.meaning.specs.Verdict.{good, file_verdict}
use Rattle.meaning.specs.Evaluation.{Env, look, look_all, pairs, walk, run_module, run, gate_outputs, evaluate}
use Rattle.meaning.specs.Heval.{pairlist, happly, heval}
use Rattle.laws.specs.Tests.{Tells, tells_true, tells_false, eqb_tells}
use Rattle.laws.specs.Members.{here as first, there as later-on, in-none, in_left, subset_in}
use Rattle.laws.specs.WellFormed.{Reference, to_gate, to_module, Body, done, step, ModuleOk, Accepted, none, some}
use Rattle.laws.specs.Accepted.{good-accepted}
use Rattle.laws.specs.Standing.{Stands, here, there, stands}
use Rattle.laws.specs.Known.{boolean_run}
use Rattle.laws.specs.Heval.{heval-of_module, inputs-bound}
use Rattle.laws.specs.OutputCount.{length-of-look_all}
use Rattle.laws.specs.Flatten.Matching.{in_front}
use Rattle.laws.specs.Flatten.Walk.{single, referred, length-of-referred}

module _ {A : Type 0} (unset unset' : A) (value value' : ℕ → List A → A)
    (alike : (kind : ℕ) (vs : List A) → is_gate kind ≡ true → (gate kind).arity ≡ length vs → value kind vs ≡ value' kind vs) where
  -- Two environments in which these nets have the same values.
  record ReadAlike (signals : List ℕ) (e e' : Env A) : Type 0 where
    at : (x : ℕ) → x ∈ signals → look unset x e ≡ look unset' x e'

  look_all-alike :
      (nets : List ℕ) {signals : List ℕ} {e e' : Env A}
      → ((x : ℕ) → x ∈ nets → x ∈ signals)
      → ReadAlike signals e e'
      → look_all unset nets e ≡ look_all unset' nets e'
  unfolding look_all
  look_all-alike [] within h = refl
  look_all-alike (x ∷ nets) within h =
      ap₂ {C = List A} ◌∷◌ (h.at x (within x (first refl))) (look_all-alike nets (λ y i. within y (later-on i)) h)

  -- Nets that are given as many values.
  pairs-alike :
      (nets : List ℕ) (vs : List A) {signals : List ℕ} {e e' : Env A}
      → length nets ≡ length vs
      → ReadAlike signals e e'
      → ReadAlike (nets ++ signals) (pairs unset nets vs ++ e) (pairs unset' nets vs ++ e')
  unfolding pairs look
  pairs-alike [] vs count h = h
  pairs-alike (n ∷ nets) [] count h = absurd (omega arith)
  pairs-alike (n ∷ nets) (v ∷ vs) {signals} {e} {e'} count h =
      record { at = λ x i. go x (eqb_tells x n) i (pairs-alike nets vs (omega arith) h) }
    where
      go :
          (x : ℕ) {b : Bool}
          → Tells (x ≡ n) (x ≢ n) b
          → x ∈ (n ∷ (nets ++ signals))
          → ReadAlike (nets ++ signals) (pairs unset nets vs ++ e) (pairs unset' nets vs ++ e')
          → cond b v (look unset x (pairs unset nets vs ++ e)) ≡ cond b v (look unset' x (pairs unset' nets vs ++ e'))
      go x (tells_true same) i further = refl
      go x (tells_false other) (first same) further = absurd (other same)
      go x (tells_false other) (later-on i) further = further.at x i

  given-alike :
      (nets : List ℕ) {vs vs' : List A} {signals : List ℕ} {e e' : Env A}
      → vs ≡ vs'
      → length nets ≡ length vs
      → ReadAlike signals e e'
      → ReadAlike (nets ++ signals) (pairs unset nets vs ++ e) (pairs unset' nets vs' ++ e')
  given-alike nets {vs} same count h = rw (← same) (pairs-alike nets vs count h)

  -- Each module of a list runs alike on as many values as it has inputs.
  record RunsAlike (ms : List Module) : Type 0 where
    same :
        {number : ℕ} {m : Module}
        → Stands number m ms
        → (vs : List A)
        → length vs ≡ length m.inputs
        → run unset (single value) ms number vs ≡ run unset' (single value') ms number vs

  referred-alike :
      {ms : List Module} {o : Occurrence} (vs : List A)
      → RunsAlike ms
      → Reference ms o
      → length vs ≡ length o.takes
      → referred unset value ms o.refers vs ≡ referred unset' value' ms o.refers vs
  referred-alike {o = o} vs later (to_gate g takes drives) count =
      rw g (ap (λ v. v ∷ []) (alike o.refers vs g (takes ∙ sym count)))
  referred-alike {ms} {o} vs later (to_module m g found takes drives) count =
      rw g (later.same (stands o.refers ms found) vs (count ∙ takes))

  body_alike :
      {ms : List Module} {signals : List ℕ} {os : List Occurrence} {e e' : Env A}
      → RunsAlike ms
      → Body ms signals os
      → ReadAlike signals e e'
      → ReadAlike (driven os ++ signals)
      (walk unset (single value) (run unset (single value) ms) os e)
      (walk unset' (single value') (run unset' (single value') ms) os e')
  unfolding walk driven
  body_alike later done h = h
  body_alike {ms} {signals} {e = e} {e'} later (step {o = o} {os} ok rest) h =
      let vs = look_all unset o.takes e in
      let taken : vs ≡ look_all unset' o.takes e' = look_all-alike o.takes (λ x i. subset_in o.takes signals ok.bound i) h in
      let given = referred-alike vs later ok.reference (length-of-look_all unset o.takes e) in
      let same = given ∙ ap (referred unset' value' ms o.refers) taken in
      let count = length-of-referred unset value vs ok.reference in
      let end = body_alike later rest (given-alike o.drives same count h) in
      record { at = λ x i. end.at x (in_front o.drives (driven os) signals i) }

  module_alike :
      {m : Module} {ms : List Module} (vs : List A)
      → RunsAlike ms
      → ModuleOk m ms
      → length vs ≡ length m.inputs
      → run_module unset (single value) (run unset (single value) ms) m vs
      ≡ run_module unset' (single value') (run unset' (single value') ms) m vs
  unfolding run_module
  module_alike {m} vs later ok count =
      let bare : ReadAlike [] [] [] = record { at = λ x i. absurd (in-none i) } in
      let start = simp append-nil at (pairs-alike m.inputs vs (sym count) bare) in
      look_all-alike m.outputs
      (λ x i. in_left m.inputs (subset_in m.outputs (driven m.occurrences) ok.outputs_driven i))
      (body_alike later ok.body start)

  runs-alike : {ms : List Module} → Accepted ms → RunsAlike ms
  unfolding run
  runs-alike none = record { same = λ s. elim s [ ] }
  runs-alike (some {m} {later} ok rest) = record { same = λ s vs. go s vs (runs-alike rest) }
    where
      go :
          {number : ℕ} {k : Module}
          → Stands number k (m ∷ later)
          → (vs : List A)
          → RunsAlike later
          → length vs ≡ length k.inputs
          → run unset (single value) (m ∷ later) number vs ≡ run unset' (single value') (m ∷ later) number vs
      go (here h) vs behind count = rw h (module_alike vs behind ok count)
      go (there h s) vs behind count = rw h (behind.same s vs count)

  pub none-missing :
      (ms : List Module) (number : ℕ) (m : Module)
      → file_verdict ms ≡ good
      → assoc number ms ≡ box m
      → (vs : List A)
      → length vs ≡ length m.inputs
      → run unset (single value) ms number vs ≡ run unset' (single value') ms number vs
  none-missing ms number m accepted found = (runs-alike (good-accepted ms accepted)).same (stands number ms found)

-- Evaluation might read anything at a net without a value,
pub evaluate-none-missing :
    (unset : Val) (ms : List Module) (number : ℕ) (m : Module)
    → file_verdict ms ≡ good
    → assoc number ms ≡ box m
    → (vs : List Val)
    → length vs ≡ length m.inputs
    → run unset gate_outputs ms number vs ≡ evaluate ms number vs
unfolding evaluate
evaluate-none-missing unset = none-missing unset (known false) gate_value gate_value (λ kind vs g count. refl)

-- and so might HEVAL: whatever a net without a value reads as, its value is that of the run on Booleans.
pub heval-none-missing :
    (unset : Bool) (ms : List Module) (number : ℕ) (m : Module)
    → file_verdict ms ≡ good
    → assoc number ms ≡ box m
    → (bs : List Bool)
    → length bs ≡ length m.inputs
    → run unset happly ms number bs ≡ heval ms number m.inputs (pairlist m.inputs bs)
unfolding happly
heval-none-missing unset ms number m accepted found bs count =
    let function : ℕ → List Bool → Bool = λ kind bs. (gate kind).function bs in
    none-missing unset false function function (λ kind vs g c. refl) ms number m accepted found bs count
    ∙ ap (boolean_run ms number) (sym (inputs-bound ms number m accepted found bs count))
    ∙ sym (heval-of_module ms number m accepted found m.inputs (pairlist m.inputs bs))
