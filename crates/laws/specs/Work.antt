-- How much work a run is (document 02, M-107): the occurrences that it ran are as many as the module's expanded size, whatever the values;
-- and of a flattened module as many as its gates, in a scratch of its inputs plus its gates.
use Rattle.std.specs.Prelude.{ℕ, ◌+◌, ◌*◌, ◌≤◌, ◌≡◌, false, length}
use Rattle.std.proofs.Math.Path.{refl, sym}
use Rattle.std.proofs.Common.{ap, ◌∙◌, arith, zero-mul, suc-mul}
use mathlib.Core.List.{List, [], ◌∷◌, map}
use Rattle.std.proofs.lemmas.List.{length-map}
use Rattle.meaning.specs.Syntax.{Occurrence, Module}
use Rattle.meaning.specs.Values.{Val, known, value}
use Rattle.meaning.specs.Ceilings.{Bytes}
use Rattle.meaning.specs.Boxlist.{Found, box, F, assoc}
use Rattle.meaning.specs.Limits.{body_size, expanded_size}
use Rattle.meaning.specs.Reading.{File, holds, fails, read}
use Rattle.meaning.specs.Verdict.{Verdict, good, refused, file_verdict}
use Rattle.meaning.specs.Evaluation.{Env, look_all, pairs, Meaning, run, gate_outputs}
use Rattle.meaning.specs.Figures.{gate_count, room}
use Rattle.meaning.specs.Calls.{Decision, refusal, answer, if_good, on_read, on_module, on_file, Written, Figures}
use Rattle.meaning.specs.Calls.{evaluation_on, evaluation, flattening, counting}
use Rattle.meaning.specs.Rows.{rows_of, rows_evaluation_on, rows_evaluation}
use Rattle.meaning.specs.Work.{walk_work, run_work, work, block_work, Ran, with_work, running, rows_running, written_by}
use Rattle.laws.specs.Calls.{ModuleOf, on_number, module_met, same_answer, asked-through}
use Rattle.laws.specs.RowParts.{count-of-rows}
use Rattle.laws.specs.Runs.{only-run-answered}
use Rattle.laws.specs.Demands.FlatRuns.{flattens, one_module, counted-here}

-- Which values an occurrence gets does not matter to how many are run.
module _ {A : Type 0} (none : A) (gate_meaning : Meaning A) where
  walk-is-size :
      (later : Meaning A) (later_work : ℕ → List A → ℕ) (later_size : ℕ → ℕ)
      → ((number : ℕ) (vs : List A) → later_work number vs ≡ later_size number)
      → (os : List Occurrence) (env : Env A)
      → walk_work none gate_meaning later later_work os env ≡ body_size later_size os
  unfolding walk_work body_size
  walk-is-size later later_work later_size same [] env = refl
  walk-is-size later later_work later_size same (o ∷ os) env =
      rw (same o.refers (look_all none o.takes env), walk-is-size later later_work later_size same os _)

  run-is-size : (ms : List Module) (number : ℕ) (vs : List A) → run_work none gate_meaning ms number vs ≡ expanded_size ms number
  unfolding run_work expanded_size
  run-is-size [] number vs = refl
  run-is-size (m ∷ ms) number vs =
      rw (
        walk-is-size (run none gate_meaning ms) (run_work none gate_meaning ms) (expanded_size ms) (run-is-size ms) m.occurrences (pairs none m.inputs vs),
        run-is-size ms number vs,
      )

-- "equal to the module's expanded size."
pub work-is-size : (ms : List Module) (number : ℕ) (vs : List Val) → work ms number vs ≡ expanded_size ms number
unfolding work
work-is-size = run-is-size (known false) gate_outputs

-- "For the block of rows it is the sum."
pub block-work-is-sizes : (ms : List Module) (number : ℕ) (rows : List (List Val)) → block_work ms number rows ≡ length rows * expanded_size ms number
unfolding block_work
block-work-is-sizes ms number [] = sym (zero-mul (expanded_size ms number))
block-work-is-sizes ms number (row ∷ rows) =
    omega (arith, work-is-size ms number row, block-work-is-sizes ms number rows, suc-mul (length rows) (expanded_size ms number))

-- So it is as many sizes as a block has rows.
pub block_works :
    (ms : List Module) (number rows width : ℕ) (values : List ℕ)
    → block_work ms number (map (map value) (rows_of rows width values)) ≡ rows * expanded_size ms number
block_works ms number rows width values =
    block-work-is-sizes ms number (map (map value) (rows_of rows width values))
    ∙ ap (λ (n : ℕ). n * expanded_size ms number) (length-map (rows_of rows width values) (map value) ∙ count-of-rows rows width values)

-- Beside its work a call comes to what it comes to without.
written : (d : Decision Written) (n : ℕ) → written_by (with_work d n) ≡ d
written (refusal number place) n = refl
written (answer w) n = refl

pub running-writes :
    (file : List ℕ) (number : ℕ) (values : List ℕ) (scratch out : ℕ)
    → written_by (running file number values scratch out) ≡ evaluation file number values scratch out
unfolding running evaluation
running-writes file number values scratch out = asked-through written_by (λ n p. refl) file number (λ ms m. written _ _)

pub rows-running-writes :
    (file : List ℕ) (number rows : ℕ) (values : List ℕ) (scratch out : ℕ)
    → written_by (rows_running file number rows values scratch out) ≡ rows_evaluation file number rows values scratch out
unfolding rows_running rows_evaluation
rows-running-writes file number rows values scratch out = asked-through written_by (λ n p. refl) file number (λ ms m. written _ _)

-- An answer has the work of a file's module.
worked :
    (file : List ℕ) (number : ℕ) (ask : List Module → Module → Decision Written) (works : List Module → Module → ℕ) (r : Ran)
    → on_number file number (λ ms m. with_work (ask ms m) (works ms m)) ≡ answer r
    → (ms : List Module) × (m : Module) × ModuleOf file number ms m × (r.work ≡ works ms m)
worked file number ask works r h =
    let a = module_met file number {ask = λ ms m. with_work (ask ms m) (works ms m)} h in
    (a.ms, a.m, a.here, counted (ask a.ms a.m) a.answered)
  where
    counted : (d : Decision Written) {n : ℕ} → with_work d n ≡ answer r → r.work ≡ n
    counted (refusal number place) e = absurd (let z : ◌≡◌ {A = ℕ} 0 1 = cc in omega arith)
    counted (answer w) e = sym (ap (λ (ran : Ran). ran.work) (same_answer e))

-- An answered run of a file's module, and its work.
ran-size :
    (file : List ℕ) (number : ℕ) (values : List ℕ) (scratch out : ℕ) (r : Ran)
    → running file number values scratch out ≡ answer r
    → (ms : List Module) × (m : Module) × ModuleOf file number ms m × (r.work ≡ expanded_size ms number)
unfolding running
ran-size file number values scratch out r h =
    let a =
    worked file number (evaluation_on number values scratch out) (λ ms m. work ms number (map value values)) r h in
    (a.0, a.1, a.2, a.3 ∙ work-is-size a.0 number (map value values))

module _ (file : List ℕ) (number : ℕ) (counted : ℕ) (figures : Figures) (counts : counting file number counted ≡ answer figures) where
  -- The work of every answered run is the size that a count tells.
  pub run_works_size :
      (values : List ℕ) (scratch out : ℕ) (r : Ran)
      → running file number values scratch out ≡ answer r
      → r.work ≡ figures.size
  run_works_size values scratch out r run =
      let ran = ran-size file number values scratch out r run in
      ran.3 ∙ sym (ap (λ (f : Figures). f.size) (counted-here counted figures ran.2 counts))

  -- The work of every answered block is as many sizes as it has rows.
  pub rows-work-sizes :
      (rows : ℕ) (values : List ℕ) (scratch out : ℕ) (r : Ran)
      → rows_running file number rows values scratch out ≡ answer r
      → r.work ≡ rows * figures.size
  unfolding rows_running
  rows-work-sizes rows values scratch out r run =
      let ran =
      worked file number (rows_evaluation_on number rows values scratch out)
      (λ ms m. block_work ms number (map (map value) (rows_of rows (length m.inputs) values))) r run in
      ran.3
      ∙ block_works ran.0 number rows (length ran.1.inputs) values
      ∙ sym (ap (λ (f : Figures). rows * f.size) (counted-here counted figures ran.2 counts))

  module _ (bytes : Bytes file) (lent size : ℕ) (flat : Written) (flattened : flattening file number lent size ≡ answer flat) where
    -- "A flattened module reports its gate count."
    pub flattened_works_gates :
        (values : List ℕ) (scratch out : ℕ) (r : Ran)
        → running flat.bytes number values scratch out ≡ answer r
        → r.work ≡ figures.gates
    flattened_works_gates values scratch out r run =
        let all = flattens file number lent size flat bytes flattened in
        let ran = ran-size flat.bytes number values scratch out r run in
        let it = one_module ran.2 all.there in
        ran.3
        ∙ ap (λ (ms : List Module). expanded_size ms number) it.0
        ∙ all.same.size
        ∙ sym (ap (λ (f : Figures). f.gates) (counted-here counted figures all.here counts))

    -- "The scratch it needs is shown to be its inputs plus its gates.": that is the room that a count tells of it,
    pub flattened-room :
        (counted' : ℕ) (figures' : Figures)
        → counting flat.bytes number counted' ≡ answer figures'
        → figures'.room ≡ figures.inputs + figures.gates
    flattened-room counted' figures' counts' =
        let all = flattens file number lent size flat bytes flattened in
        let is = counted-here counted figures all.here counts in
        let inputs : figures.inputs ≡ length all.m.inputs = rw is in
        let gates : figures.gates ≡ gate_count all.ms number = rw is in
        let rooms : figures'.room ≡ room (all.flat ∷ []) number = rw (counted-here counted' figures' all.there counts') in
        omega (arith, inputs, gates, rooms, all.same.rooms)

    -- and no run of it is answered in less.
    pub flattened_needs :
        (values : List ℕ) (scratch out : ℕ) (w : Written)
        → evaluation flat.bytes number values scratch out ≡ answer w
        → figures.inputs + figures.gates ≤ scratch
    flattened_needs values scratch out w run =
        let all = flattens file number lent size flat bytes flattened in
        let ran = (only-run-answered flat.bytes number values scratch out w run).0 in
        let it = one_module ran.here all.there in
        let is = counted-here counted figures all.here counts in
        let inputs : figures.inputs ≡ length all.m.inputs = rw is in
        let gates : figures.gates ≡ gate_count all.ms number = rw is in
        let rooms : room ran.ms number ≡ room (all.flat ∷ []) number = rw it.0 in
        omega (arith, inputs, gates, rooms, ran.roomy, all.same.rooms)
