-- What a C caller gets: number and place as document 01 has them, and behind the other pointers what was asked for. On a refusal nothing
-- is written but the place.
use Rattle.std.specs.Prelude.{ℕ, ◌≡◌, List, [], ◌∷◌, length}
use Rattle.std.proofs.Common.{sym, ◌∙◌}
use Rattle.meaning.specs.Calls.{Decision, refusal, answer, Written, number_of, place_of}
use Rattle.meaning.specs.Family.{Summary}

-- How many bytes of the output buffer were written.
abbrev pub written_after : Decision Written → ℕ → ℕ
written_after (refusal number place) before = before
written_after (answer w) before = length w.bytes

-- The work of a run, beside what it comes to.
abbrev pub work_left : Decision Written → (done before : ℕ) → ℕ
work_left (refusal number place) done before = before
work_left (answer w) done before = done

pub record Reports (decision : Decision Written) (number before written place : ℕ) : Type 0 where
  pub number_is : number ≡ number_of decision
  pub written_is : written ≡ written_after decision before
  pub place_is : place ≡ place_of decision

-- A run that was `done` much work reports it too.
pub record ReportsRun (decision : Decision Written) (done number before written work_before work place : ℕ) : Type 0 where
  pub reported : Reports decision number before written place
  pub work_is : work ≡ work_left decision done work_before

-- What a call that answers one number hands back.
abbrev pub answer_after : Decision ℕ → ℕ → ℕ
answer_after (refusal number place) before = before
answer_after (answer n) before = n

-- What a count hands back: eight figures and sixteen counts of gates.
abbrev pub figures_left : Decision Summary → List ℕ → List ℕ
figures_left (refusal number place) before = before
figures_left (answer s) before =
    let f = s.figures in
    f.inputs ∷ f.outputs ∷ f.gates ∷ f.size ∷ f.room ∷ f.delay ∷ f.load ∷ s.family_delay ∷ []

abbrev pub tally_left : Decision Summary → List ℕ → List ℕ
tally_left (refusal number place) before = before
tally_left (answer s) before = s.figures.tally

-- Each contract says of each result what it equals, so any two outcomes that it permits coincide: those of a call that writes,
pub one_report :
    {decision : Decision Written} {before number number' written written' place place' : ℕ}
    → Reports decision number before written place
    → Reports decision number' before written' place'
    → (number ≡ number') × ((written ≡ written') × (place ≡ place'))
one_report one other = (one.number_is ∙ sym other.number_is, (one.written_is ∙ sym other.written_is, one.place_is ∙ sym other.place_is))

-- of a run,
pub one-run_report :
    {decision : Decision Written} {done before work_before number number' written written' work work' place place' : ℕ}
    → ReportsRun decision done number before written work_before work place
    → ReportsRun decision done number' before written' work_before work' place'
    → (number ≡ number') × ((written ≡ written') × (place ≡ place')) × (work ≡ work')
one-run_report one other =
    let same = one_report one.reported other.reported in
    (same.0, same.1, one.work_is ∙ sym other.work_is)

-- of one that answers one number,
pub one-number_report :
    (decision : Decision ℕ) (before : ℕ) {number number' found found' place place' : ℕ}
    → (number ≡ number_of decision) × ((found ≡ answer_after decision before) × (place ≡ place_of decision))
    → (number' ≡ number_of decision) × ((found' ≡ answer_after decision before) × (place' ≡ place_of decision))
    → (number ≡ number') × ((found ≡ found') × (place ≡ place'))
one-number_report decision before one other = (one.0 ∙ sym other.0, (one.1.0 ∙ sym other.1.0, one.1.1 ∙ sym other.1.1))

-- and of a count. The check hands back a number and a place, each an equation.
pub one-count_report :
    (decision : Decision Summary) (figures tally : List ℕ) {figures₁ figures₂ tally₁ tally₂ : List ℕ}
    → (figures₁ ≡ figures_left decision figures) × (tally₁ ≡ tally_left decision tally)
    → (figures₂ ≡ figures_left decision figures) × (tally₂ ≡ tally_left decision tally)
    → (figures₁ ≡ figures₂) × (tally₁ ≡ tally₂)
one-count_report decision figures tally one other = (one.0 ∙ sym other.0, one.1 ∙ sym other.1)
