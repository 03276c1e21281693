-- What evaluation promises: the answer, what both lent buffers hold afterwards, and the work.
use Rattle.std.specs.Prelude.{ℕ, Result, List, length}
use Rattle.meaning.specs.Calls.{evaluation}
use Rattle.meaning.specs.Work.{running}
use Rattle.refusals.specs.declared.Refusal.{Refusal}
use Rattle.answers.specs.Running.{RunsAs}
use Rattle.answers.specs.declared.Run.{Run}

-- `written` is the number of outputs.
abbrev pub Evaluates : (file : List ℕ) (number : ℕ) (values scratch out scratch' out' : List ℕ) (result : Result Run Refusal) → Type 0
Evaluates file number values scratch out scratch' out' result =
    RunsAs (evaluation file number values (length scratch) (length out)) (running file number values (length scratch) (length out))
    scratch out scratch' out' result
