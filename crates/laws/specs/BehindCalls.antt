-- Two accepted files, of which one has more modules behind those of the other: whatever is asked of a module of the shorter is answered alike.
use Rattle.std.specs.Prelude.{ℕ, ◌≡◌, false, List, ◌++◌, eqb}
use Rattle.std.proofs.Math.Path.{sym, fun_ext}
use Rattle.std.proofs.Common.{ap, ◌∙◌}
use Rattle.std.proofs.Math.Bool.{cond}
use Rattle.meaning.specs.Syntax.{Module}
use Rattle.meaning.specs.Values.{known}
use Rattle.meaning.specs.Boxlist.{box, assoc}
use Rattle.meaning.specs.Reading.{holds, read}
use Rattle.meaning.specs.Verdict.{good, file_verdict}
use Rattle.meaning.specs.Evaluation.{gate_outputs, evaluate}
use Rattle.meaning.specs.Figures.{gate_weight, gate_count, kind_count, tally, room, gate_arrival, arrivals, delay_by, delay}
use Rattle.meaning.specs.Loads.{largest_load}
use Rattle.meaning.specs.Flattening.{flat_module}
use Rattle.meaning.specs.Calls.{evaluation_on, evaluation, flat_file, flattening_on, flattening, counting_on, counting}
use Rattle.laws.specs.WellFormed.{Accepted}
use Rattle.laws.specs.Accepted.{good-accepted}
use Rattle.laws.specs.Behind.{Refers, nothing-behind}
use Rattle.laws.specs.Referring.{Weights, assoc-refers, run-refers, expanded_size-refers, gate_weight-refers, room-refers, weights-refers, place-refers}
use Rattle.laws.specs.Calls.{ModuleOf, asked_here}

module _ {ms : List Module} (accepted : Accepted ms) (behind : List Module) (number : ℕ) {k : Module} (found : assoc number ms ≡ box k) where
  same : {C : Type 0} {f : List Module → ℕ → C} {own : (ℕ → C) → Module → C} → Refers f own → f (ms ++ behind) number ≡ f ms number
  same refers = nothing-behind refers accepted behind number k found

  pub found-behind : assoc number (ms ++ behind) ≡ box k
  found-behind = same assoc-refers ∙ found

  evaluate-behind : evaluate (ms ++ behind) number ≡ evaluate ms number
  unfolding evaluate
  evaluate-behind = same (run-refers (known false) gate_outputs)

  room-behind : room (ms ++ behind) number ≡ room ms number
  room-behind = same room-refers

  gates-behind : gate_count (ms ++ behind) number ≡ gate_count ms number
  unfolding gate_count
  gates-behind = same (gate_weight-refers (λ kind. 1))

  tally-behind : tally (ms ++ behind) number ≡ tally ms number
  unfolding tally kind_count
  tally-behind =
      let each : (kind : ℕ) → gate_weight (λ other. cond (eqb other kind) 1 0) (ms ++ behind) number ≡ gate_weight (λ other. cond (eqb other kind) 1 0) ms number
      = λ kind. same (gate_weight-refers (λ other. cond (eqb other kind) 1 0)) in
      simp each

  delay-behind : delay (ms ++ behind) number ≡ delay ms number
  unfolding delay delay_by arrivals
  delay-behind = rw (same (run-refers 0 (gate_arrival (λ kind. 1))), same assoc-refers)

  load-behind : largest_load (ms ++ behind) number ≡ largest_load ms number
  load-behind = ap (λ (w : Weights). w.most) (same weights-refers)

  flat-behind : flat_module (ms ++ behind) number ≡ flat_module ms number
  unfolding flat_module
  flat-behind = fun_ext (λ inputs. rw (same place-refers))

  pub evaluation_on-behind :
      (values : List ℕ) (scratch out : ℕ) (m : Module)
      → evaluation_on number values scratch out (ms ++ behind) m ≡ evaluation_on number values scratch out ms m
  evaluation_on-behind values scratch out m = rw (room-behind, evaluate-behind)

  pub flattening_on-behind :
      (scratch out : ℕ) (m : Module) → flattening_on number scratch out (ms ++ behind) m ≡ flattening_on number scratch out ms m
  unfolding flat_file
  flattening_on-behind scratch out m = rw (gates-behind, room-behind, flat-behind)

  pub counting_on-behind : (scratch : ℕ) (m : Module) → counting_on number scratch (ms ++ behind) m ≡ counting_on number scratch ms m
  counting_on-behind scratch m =
      rw (tally-behind, gates-behind, same expanded_size-refers, room-behind, delay-behind, load-behind)

-- A module of an accepted file, and another accepted file that has the same modules and more behind them.
pub record Further (file file' : List ℕ) (number : ℕ) : Type 0 where
  pub ms : List Module
  pub behind : List Module
  pub m : Module
  pub here : ModuleOf file number ms m
  pub reads : read file' ≡ holds (ms ++ behind)
  pub accepted : file_verdict (ms ++ behind) ≡ good

module _ {file file' : List ℕ} {number : ℕ} (f : Further file file' number) where
  passes : Accepted f.ms
  passes = good-accepted f.ms f.here.accepted

  there : ModuleOf file' number (f.ms ++ f.behind) f.m
  there = record { reads = f.reads; accepted = f.accepted; found = found-behind passes f.behind number f.here.found }

  pub further-evaluation :
      (values : List ℕ) (scratch out : ℕ) → evaluation file' number values scratch out ≡ evaluation file number values scratch out
  unfolding evaluation
  further-evaluation values scratch out =
      asked_here (evaluation_on number values scratch out) there
      ∙ evaluation_on-behind passes f.behind number f.here.found values scratch out f.m
      ∙ sym (asked_here (evaluation_on number values scratch out) f.here)

  pub further-flattening : (scratch out : ℕ) → flattening file' number scratch out ≡ flattening file number scratch out
  unfolding flattening
  further-flattening scratch out =
      asked_here (flattening_on number scratch out) there
      ∙ flattening_on-behind passes f.behind number f.here.found scratch out f.m
      ∙ sym (asked_here (flattening_on number scratch out) f.here)

  pub further-counting : (scratch : ℕ) → counting file' number scratch ≡ counting file number scratch
  unfolding counting
  further-counting scratch =
      asked_here (counting_on number scratch) there
      ∙ counting_on-behind passes f.behind number f.here.found scratch f.m
      ∙ sym (asked_here (counting_on number scratch) f.here)
