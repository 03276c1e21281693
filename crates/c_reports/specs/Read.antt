-- What a C caller gets beside the number and the place, read off the library's answer: where it is a refusal, what stood behind a pointer before
-- stays.
use Rattle.std.specs.Prelude.{ℕ, Result, Ok, Err, List, [], ◌∷◌}
use Rattle.refusals.specs.declared.Refusal.{Refusal}
use Rattle.answers.specs.declared.Run.{Run}
use Rattle.call_count.specs.declared.counts.Figures.{Figures}

abbrev pub answer_or : {A : Type 0} → Result A Refusal → A → A
answer_or (Ok answer) before = answer
answer_or (Err r) before = before

abbrev pub work_or : Result Run Refusal → ℕ → ℕ
work_or (Ok run) before = run.work
work_or (Err r) before = before

abbrev pub figures_of : Figures → List ℕ
figures_of f = f.inputs ∷ f.outputs ∷ f.gates ∷ f.size ∷ f.room ∷ f.delay ∷ f.load ∷ f.family ∷ []
