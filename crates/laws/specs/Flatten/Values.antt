-- The flattened module gives what the module gives, for any interpreter whose gates each give one value: on three values, unknown
-- ones too, and on arrivals. A net of the board stands for the value that it reads as once the gates so far have run; the nets
-- below the next number read the same ever after.
use Rattle.std.specs.Prelude.{ℕ, ◌+◌, ◌<◌, ◌≡◌, true, false, replicate}
use Rattle.std.proofs.Math.Path.{refl, ap₂}
use Rattle.std.proofs.Common.{ap, ◌∙◌, take_all, arith, eq-eqb}
use mathlib.Core.List.Forall₂.{cons as more}
use mathlib.Core.List.Forall₂.{nil as none}
use mathlib.Core.List.{List, [], ◌∷◌, ◌++◌, Forall₂}
use Rattle.std.proofs.Math.ListN.{length}
use Rattle.std.proofs.lemmas.List.{length-replicate}
use Rattle.meaning.specs.Syntax.{Occurrence, Module}
use Rattle.meaning.specs.Values.{Val, known}
use Rattle.meaning.specs.Gates.{is_gate, gate_value}
use Rattle.meaning.specs.Members.{◌∈◌}
use Rattle.meaning.specs.Boxlist.{box, assoc}
use Rattle.meaning.specs.Verdict.{good, file_verdict}
use Rattle.meaning.specs.Evaluation.{Env, look, look_all, pairs, Meaning, walk, run_module, run, evaluate}
use Rattle.meaning.specs.Figures.{arrivals, largest, delay_by}
use Rattle.meaning.specs.Flattening.{Board, place_gate, flat_module}
use Rattle.meaning.specs.Adder.{up_from}
use Rattle.laws.specs.Accepted.{good-accepted}
use Rattle.laws.specs.Members.{here, there}
use Rattle.laws.specs.Standing.{stands}
use Rattle.laws.specs.Adder.Nets.{length-up_from, look-here, look-past, look_all-pairs}
use Rattle.laws.specs.Flatten.Numbered.{below-run}
use Rattle.laws.specs.Flatten.Walk.{single, Gates, place-shows}

-- Occurrences one after the other.
walk-append :
    {A : Type 0} (unset : A) (gate_meaning later : Meaning A) (os ps : List Occurrence) (env : Env A)
    → walk unset gate_meaning later (os ++ ps) env ≡ walk unset gate_meaning later ps (walk unset gate_meaning later os env)
unfolding walk
walk-append unset gate_meaning later [] ps env = refl
walk-append unset gate_meaning later (o ∷ os) ps env = walk-append unset gate_meaning later os ps _

module _ {A : Type 0} (unset : A) (value : ℕ → List A → A) (later : Meaning A) (start : Env A) where
  -- What the nets hold once the gates of a board have run.
  unfoldable after : Board → Env A
  after b = walk unset (single value) later b.gates start

  -- A net of the board reads as a value.
  record Reads (b : Board) (net : ℕ) (v : A) : Type 0 where
    below : net < b.next
    reads : look unset net (after b) ≡ v

  reads_all : {b : Board} {nets : List ℕ} {vs : List A} → Forall₂ (Reads b) nets vs → look_all unset nets (after b) ≡ vs
  unfolding look_all
  reads_all none = refl
  reads_all (more r rs) = ap₂ {C = List A} ◌∷◌ r.reads (reads_all rs)

  all_read :
      (b : Board) (nets : List ℕ)
      → ((x : ℕ) → x ∈ nets → x < b.next)
      → Forall₂ (Reads b) nets (look_all unset nets (after b))
  unfolding look_all
  all_read b [] below = none
  all_read b (net ∷ nets) below =
      more (record { below = below net (here refl); reads = refl }) (all_read b nets (λ x i. below x (there i)))

  -- A gate more gives its net its value and leaves the nets before.
  after-gate :
      (kind : ℕ) (nets : List ℕ) (b : Board)
      → is_gate kind ≡ true
      → after (place_gate kind nets b).board
      ≡ record { net = b.next; value = value kind (look_all unset nets (after b)) } ∷ after b
  unfolding after walk pairs
  after-gate kind nets b g = walk-append unset (single value) later b.gates _ start ∙ rw g

  gate-keeps :
      (kind : ℕ) (nets : List ℕ) (b : Board)
      → is_gate kind ≡ true
      → (net : ℕ) (v : A)
      → Reads b net v
      → Reads (place_gate kind nets b).board net v
  gate-keeps kind nets b g net v r =
      let old : ¬ (net ≡ b.next) = λ e. omega (arith, r.below) in
      record {
        below = omega (arith, r.below);
        reads = rw (after-gate kind nets b g) (look-past unset net b.next _ (after b) old ∙ r.reads);
      }

  gate-reads :
      (kind : ℕ) {nets : List ℕ} {vs : List A} (b : Board)
      → is_gate kind ≡ true
      → Forall₂ (Reads b) nets vs
      → Reads (place_gate kind nets b).board b.next (value kind vs)
  gate-reads kind {nets} b g rs =
      record {
        below = omega arith;
        reads = rw (after-gate kind nets b g) (look-here unset b.next _ (after b) ∙ ap (value kind) (reads_all rs));
      }

  gates-read : Gates unset value (λ b. Unit {0}) Reads
  gates-read =
      record {
        shows = λ kind {nets} {vs} b g arity rs.
            record {
              kept = record { fine = λ f. f; nets = gate-keeps kind nets b g };
              outputs = more (gate-reads kind b g rs) none;
            };
      }

-- On the board before the first gate the inputs, 0, 1, 2 and so on, read as the values given to them.
abbrev bare : ℕ → Board
bare inputs = record { next = inputs; gates = [] }

inputs_read :
    {A : Type 0} (unset : A) (value : ℕ → List A → A) (later : Meaning A) (inputs : ℕ) (vs : List A)
    → length vs ≡ inputs
    → Forall₂ (Reads unset value later (pairs unset (up_from 0 inputs) vs) (bare inputs)) (up_from 0 inputs) vs
unfolding after walk
inputs_read unset value later inputs vs count =
    let nets : List ℕ = up_from 0 inputs in
    let read : look_all unset nets (pairs unset nets vs) ≡ vs
    = look_all-pairs unset 0 0 inputs inputs vs (omega arith) (omega arith) ∙ take_all inputs vs (omega arith) in
    rw read at (all_read unset value later (pairs unset nets vs) (bare inputs) nets (below-run inputs))

module _ (ms : List Module) (number : ℕ) (m : Module) (accepted : file_verdict ms ≡ good) (found : assoc number ms ≡ box m) where
  -- Any interpreter whose gates each give one value.
  pub run-of-flat :
      {A : Type 0} (unset : A) (value : ℕ → List A → A) (vs : List A)
      → length vs ≡ length m.inputs
      → run unset (single value) (flat_module ms number (length m.inputs) ∷ []) number vs
      ≡ run unset (single value) ms number vs
  unfolding run run_module flat_module after
  run-of-flat unset value vs count =
      let inputs = length m.inputs in
      let later = run unset (single value) [] in
      let start = pairs unset (up_from 0 inputs) vs in
      let modules = place-shows unset value _ _ (gates-read unset value later start) (good-accepted ms accepted) in
      let reads = inputs_read unset value later inputs vs count in
      let shown = modules.shows number (stands number ms found) (bare inputs) (length-up_from 0 inputs) reads in
      rw (eq-eqb number number refl) (reads_all unset value later start shown.outputs)

  -- Its three-valued outputs are the module's, on every list of input values, unknown ones too.
  pub evaluate-of-flat :
      (vs : List Val)
      → length vs ≡ length m.inputs
      → evaluate (flat_module ms number (length m.inputs) ∷ []) number vs ≡ evaluate ms number vs
  unfolding evaluate
  evaluate-of-flat = run-of-flat (known false) gate_value

  -- Its outputs arrive when the module's do, by any delays of the gates,
  pub arrivals-of-flat :
      (delay : ℕ → ℕ) (times : List ℕ)
      → length times ≡ length m.inputs
      → arrivals delay (flat_module ms number (length m.inputs) ∷ []) number times ≡ arrivals delay ms number times
  unfolding arrivals
  arrivals-of-flat delay = run-of-flat 0 (λ kind times. delay kind + largest times)

  -- so its delay is the module's.
  pub delay-of-flat :
      (delay : ℕ → ℕ) → delay_by delay (flat_module ms number (length m.inputs) ∷ []) number ≡ delay_by delay ms number
  unfolding delay_by assoc flat_module
  delay-of-flat delay =
      let inputs = length m.inputs in
      rw (eq-eqb number number refl, length-up_from 0 inputs, found)
      (ap largest (arrivals-of-flat delay (replicate inputs 0) (length-replicate inputs 0)))
