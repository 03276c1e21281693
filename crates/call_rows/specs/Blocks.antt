-- What a block of rows promises: the answer, what both lent buffers hold afterwards, and the work.
use Rattle.std.specs.Prelude.{ℕ, Result, List, length}
use Rattle.meaning.specs.Rows.{rows_evaluation}
use Rattle.meaning.specs.Work.{rows_running}
use Rattle.refusals.specs.declared.Refusal.{Refusal}
use Rattle.answers.specs.Running.{RunsAs}
use Rattle.answers.specs.declared.Run.{Run}

-- `written` is the number of all outputs.
abbrev pub EvaluatesRows : (file : List ℕ) (number rows : ℕ) (values scratch out scratch' out' : List ℕ) (result : Result Run Refusal) → Type 0
EvaluatesRows file number rows values scratch out scratch' out' result =
    RunsAs (rows_evaluation file number rows values (length scratch) (length out))
    (rows_running file number rows values (length scratch) (length out)) scratch out scratch' out' result
