-- How much work a run is (document 02, M-107): the number of occurrences that evaluation runs. It is counted along the walk that defines
-- evaluation, on the same values: one for an occurrence each time it is reached, gate or module, and at a module what it runs in turn.
use Rattle.std.specs.Prelude.{ℕ, suc, ◌+◌, false, cond, List, [], ◌∷◌, ◌++◌, map, eqb, length}
use Rattle.meaning.specs.Values.{Val, known, value}
use Rattle.meaning.specs.Syntax.{Occurrence, Module}
use Rattle.meaning.specs.Gates.{is_gate}
use Rattle.meaning.specs.Boxlist.{assoc}
use Rattle.meaning.specs.Evaluation.{Env, look_all, pairs, Meaning, apply, run, gate_outputs}
use Rattle.meaning.specs.Calls.{Decision, refusal, answer, on_file, on_module, Written, evaluation_on}
use Rattle.meaning.specs.Rows.{rows_of, rows_evaluation_on}

-- Occurrences from first to last, as `walk` runs them. `later_work` is what the later modules run on the values of their inputs.
unfoldable pub walk_work :
    {A : Type 0} → A → (gate_meaning later : Meaning A) → (later_work : ℕ → List A → ℕ) → List Occurrence → Env A → ℕ
walk_work none gate_meaning later later_work [] env = 0
walk_work none gate_meaning later later_work (o ∷ os) env =
    suc (cond (is_gate o.refers) 0 (later_work o.refers (look_all none o.takes env)))
    + walk_work none gate_meaning later later_work os
    (pairs none o.drives (apply gate_meaning later o.refers (look_all none o.takes env)) ++ env)

-- The module of a number in a list, as `run` finds it.
unfoldable pub run_work : {A : Type 0} → A → Meaning A → List Module → ℕ → List A → ℕ
run_work none gate_meaning [] number vs = 0
run_work none gate_meaning (m ∷ ms) number vs =
    cond (eqb number m.number)
    (walk_work none gate_meaning (run none gate_meaning ms) (run_work none gate_meaning ms) m.occurrences (pairs none m.inputs vs))
    (run_work none gate_meaning ms number vs)

-- The work of evaluation on the values of a row,
unfoldable pub work : List Module → (number : ℕ) → List Val → ℕ
work = run_work (known false) gate_outputs

-- and of a block of rows, the sum.
unfoldable pub block_work : List Module → (number : ℕ) → (rows : List (List Val)) → ℕ
block_work ms number [] = 0
block_work ms number (row ∷ rows) = work ms number row + block_work ms number rows

-- The call of evaluation with its work: what an answer writes, and the occurrences that it ran.
pub record Ran : Type 0 where
  pub written : Written
  pub work : ℕ

abbrev pub with_work : Decision Written → (work : ℕ) → Decision Ran
with_work (refusal number place) work = refusal number place
with_work (answer w) work = answer (record { written = w; work = work })

abbrev pub running_on : (number : ℕ) (values : List ℕ) (scratch out : ℕ) (ms : List Module) → Module → Decision Ran
running_on number values scratch out ms m =
    with_work (evaluation_on number values scratch out ms m) (work ms number (map value values))

unfoldable pub running : (file : List ℕ) (number : ℕ) (values : List ℕ) (scratch out : ℕ) → Decision Ran
running file number values scratch out =
    on_file file λ ms. on_module (assoc number ms) (running_on number values scratch out ms)

-- The call on a block of rows with its work.
abbrev pub rows_running_on : (number rows : ℕ) (values : List ℕ) (scratch out : ℕ) (ms : List Module) → Module → Decision Ran
rows_running_on number rows values scratch out ms m =
    with_work (rows_evaluation_on number rows values scratch out ms m)
    (block_work ms number (map (map value) (rows_of rows (length m.inputs) values)))

unfoldable pub rows_running : (file : List ℕ) (number rows : ℕ) (values : List ℕ) (scratch out : ℕ) → Decision Ran
rows_running file number rows values scratch out =
    on_file file λ ms. on_module (assoc number ms) (rows_running_on number rows values scratch out ms)

-- What it writes; and the work that it hands back, 0 after a refusal.
abbrev pub written_by : Decision Ran → Decision Written
written_by (refusal number place) = refusal number place
written_by (answer r) = answer r.written

abbrev pub work_after : Decision Ran → ℕ
work_after (refusal number place) = 0
work_after (answer r) = r.work
