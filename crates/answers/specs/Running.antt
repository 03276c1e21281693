-- What a run promises: what it wrote, what both lent buffers hold afterwards, and how much work it was.
use Rattle.std.specs.Prelude.{ℕ, ◌≡◌, refl, Result, Ok, Err, List}
use Rattle.std.proofs.Common.{ap, sym, subst, ◌∙◌}
use Rattle.meaning.specs.Calls.{Decision, refusal, answer, Written}
use Rattle.meaning.specs.Work.{Ran, with_work, written_by, work_after}
use Rattle.refusals.specs.declared.Refusal.{Refusal}
use Rattle.answers.specs.Answers.{ok_not_err}
use Rattle.answers.specs.Settled.{Settles, one-outcome}
use Rattle.answers.specs.declared.Run.{Run}

-- What it wrote, as a call answers that only writes; and its work, none with a refusal.
abbrev pub writing_in : Result Run Refusal → Result ℕ Refusal
writing_in (Ok run) = Ok run.written
writing_in (Err r) = Err r

abbrev pub work_in : Result Run Refusal → ℕ
work_in (Ok run) = run.work
work_in (Err r) = 0

-- Both together are all of it.
same-run : (one other : Result Run Refusal) → writing_in one ≡ writing_in other → work_in one ≡ work_in other → one ≡ other
same-run (Ok one) (Ok other) w n = let written : one.written ≡ other.written = cc in rw (written, n) refl
same-run (Ok one) (Err r) w n = absurd (ok_not_err w)
same-run (Err r) (Ok other) w n = absurd (ok_not_err (sym w))
same-run (Err r) (Err s) w n = let same : r ≡ s = cc in rw same refl

pub record Runs (decision : Decision Ran) (scratch out scratch' out' : List ℕ) (result : Result Run Refusal) : Type 0 where
  pub settled : Settles (written_by decision) scratch out scratch' out' (writing_in result)
  pub worked : work_in result ≡ work_after decision

-- What was written, with the work beside it: a refusal has none.
abbrev pub run_of : Result ℕ Refusal → (work : ℕ) → Result Run Refusal
run_of (Ok count) work = Ok (record { written = count; work = work })
run_of (Err r) work = Err r

written-beside : (w : Result ℕ Refusal) (work : ℕ) → writing_in (run_of w work) ≡ w
written-beside (Ok count) work = refl
written-beside (Err r) work = refl

-- A call that settles, beside the work that goes with its answer, whatever it answers.
pub runs-beside :
    (decision : Decision Written) {work counted : ℕ} {scratch out scratch' out' : List ℕ} {w : Result ℕ Refusal}
    → Settles decision scratch out scratch' out' w
    → ((written : Written) → decision ≡ answer written → counted ≡ work)
    → Runs (with_work decision work) scratch out scratch' out' (run_of w counted)
runs-beside (refusal number place) settles counts =
    record { settled = rw (written-beside _ _) settles; worked = rw settles.answered.is refl }
runs-beside (answer written) settles counts =
    record { settled = rw (written-beside _ _) settles; worked = rw settles.answered.is (counts written refl) }

-- The same where it is known that it was answered.
pub runs-answered :
    (decision : Decision Written) {work counted count : ℕ} {scratch out scratch' out' : List ℕ} {w : Result ℕ Refusal}
    → w ≡ Ok count
    → Settles decision scratch out scratch' out' w
    → ((written : Written) → decision ≡ answer written → counted ≡ work)
    → Runs (with_work decision work) scratch out scratch' out' (Ok (record { written = count; work = counted }))
runs-answered decision is settles counts = runs-beside decision {w = Ok _} (rw is at settles) counts

-- What a caller is promised: the answer and both buffers are those of the call as it is without its work, and the work is beside them.
pub record RunsAs (decision : Decision Written) (ran : Decision Ran) (scratch out scratch' out' : List ℕ) (result : Result Run Refusal) : Type 0 where
  pub settled : Settles decision scratch out scratch' out' (writing_in result)
  pub worked : work_in result ≡ work_after ran

module _ {decision : Decision Written} {ran : Decision Ran} {scratch out scratch' out' : List ℕ} {result : Result Run Refusal} where
  pub runs_as : written_by ran ≡ decision → Runs ran scratch out scratch' out' result → RunsAs decision ran scratch out scratch' out' result
  runs_as same runs =
      record {
        settled = subst (λ (d : Decision Written). Settles d scratch out scratch' out' (writing_in result)) same runs.settled;
        worked = runs.worked;
      }

  -- Any two outcomes that it permits coincide.
  pub one-run :
      {scratch'' out'' : List ℕ} {result' : Result Run Refusal}
      → RunsAs decision ran scratch out scratch' out' result
      → RunsAs decision ran scratch out scratch'' out'' result'
      → (result ≡ result') × (scratch' ≡ scratch'') × (out' ≡ out'')
  one-run one other =
      let same = one-outcome one.settled other.settled in
      (same-run _ _ same.0 (one.worked ∙ sym other.worked), same.1, same.2)
