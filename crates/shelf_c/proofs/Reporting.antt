-- The numbers read off the library's answer are those of the decision.
use Rattle.std.specs.Prelude.{Result, Err, Ok}
use Rattle.refusals.specs.Refused.{number_in, place_in}
use Rattle.refusals.specs.declared.Refusal.{Refusal}
use Prim.Native.Nat.{ℕ}
use mathlib.Core.Path.{◌≡◌, refl, sym, ap, ◌∙◌}
use mathlib.Core.List.{List}
use Rattle.meaning.specs.Calls.{Decision, refusal, answer, Written}
use Rattle.meaning.specs.Work.{Ran, work_after}
use Rattle.answers.specs.Answers.{writing_of, ok_not_err}
use Rattle.answers.specs.Running.{RunsAs, writing_in, work_in}
use Rattle.answers.specs.declared.Run.{Run}
use Rattle.c_reports.specs.Read.{answer_or, work_or}
use Rattle.shelf_c.specs.Results.{work_left, Reports, ReportsRun}

of-decision : (d : Decision Written) (before : ℕ) → Reports d (number_in (writing_of d)) before (answer_or (writing_of d) before) (place_in (writing_of d))
of-decision (refusal number place) before = record { number_is = refl; written_is = refl; place_is = refl }
of-decision (answer w) before = record { number_is = refl; written_is = refl; place_is = refl }

pub reports : {d : Decision Written} {result : Result ℕ Refusal} {number before written place : ℕ} → result ≡ writing_of d
    → (number ≡ number_in result) × ((written ≡ answer_or result before) × (place ≡ place_in result))
    → Reports d number before written place
reports {d} {before = before} is told =
    let r = of-decision d before in
    record {
      number_is = told.0 ∙ ap number_in is ∙ r.number_is;
      written_is = told.1.0 ∙ ap (λ (w : Result ℕ Refusal). answer_or w before) is ∙ r.written_is;
      place_is = told.1.1 ∙ ap place_in is ∙ r.place_is;
    }

-- The work of a run is handed back where it is answered.
work-reports :
    (d : Decision Written) (before : ℕ) (result : Result Run Refusal) {done left : ℕ} → writing_in result ≡ writing_of d → work_in result ≡ done
    → left ≡ work_or result before → left ≡ work_left d done before
work-reports (refusal number place) before (Ok run) is same told = absurd (ok_not_err is)
work-reports (refusal number place) before (Err r) is same told = told
work-reports (answer w) before (Ok run) is same told = told ∙ same
work-reports (answer w) before (Err r) is same told = absurd (ok_not_err (sym is))

-- What is read off a run is read off what it wrote.
number-written : (result : Result Run Refusal) → number_in result ≡ number_in (writing_in result)
number-written (Ok run) = refl
number-written (Err r) = refl

place-written : (result : Result Run Refusal) → place_in result ≡ place_in (writing_in result)
place-written (Ok run) = refl
place-written (Err r) = refl

pub run-reports :
    {d : Decision Written} {ran : Decision Ran} {scratch out scratch' out' : List ℕ} {result : Result Run Refusal}
    {number before written work_before work place : ℕ}
    → RunsAs d ran scratch out scratch' out' result
    → (number ≡ number_in result)
    × ((written ≡ answer_or (writing_in result) before) × ((work ≡ work_or result work_before) × (place ≡ place_in result)))
    → ReportsRun d (work_after ran) number before written work_before work place
run-reports {d} {result = result} {work_before = work_before} a told =
    record {
      reported = reports a.settled.answered.is (told.0 ∙ number-written result, (told.1.0, told.1.1.1 ∙ place-written result));
      work_is = work-reports d work_before result a.settled.answered.is a.worked told.1.1.0;
    }
