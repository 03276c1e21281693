-- What is asked of a module that stands is what each call on it promises.
use Rattle.std.specs.Prelude.{Result}
use Rattle.refusals.specs.declared.Refusal.{Refusal}
use Prim.Native.Nat.{ℕ, ◌≤◌}
use mathlib.Core.Path.{◌≡◌, sym, subst}
use mathlib.Core.List.{List}
use lib.ListN.{length}
use Rattle.meaning.specs.Calls.{flattening_on}
use Rattle.meaning.specs.Family.{summary_on}
use Rattle.meaning.specs.Work.{running_on, rows_running_on}
use Rattle.answers.specs.Settled.{Settles}
use Rattle.answers.specs.Running.{Runs}
use Rattle.answers.specs.declared.Run.{Run}
use Rattle.call_count.specs.Answers.{Counts}
use Rattle.call_count.specs.declared.counts.Figures.{Figures}
use Rattle.open_finding.specs.Standing.{Standing}
use Rattle.open_finding.specs.declared.Site.{Site}
use Rattle.call_door.specs.declared.asks.Task.{Task}
use Rattle.call_door.specs.declared.asks.Task.TheVariants.{Evaluate, Rows, Own}
use Rattle.call_door.specs.declared.asks.Own.{Own as Kind}
use Rattle.call_door.specs.declared.asks.Own.TheVariants.{Count, Flatten}
use Rattle.call_door.specs.declared.asks.Sheet.{Sheet}
use Rattle.call_door.specs.Asks.{InShort, Done}

-- A flattening is in short lists where the module is small.
pub small : {own : Kind} (site : Site) → own ≡ Flatten → InShort own site → (site.size ≤ 832) × (site.room ≤ 1024)
small site is = subst (λ (k : Kind). InShort k site) is

module _ {image starts nets : List ℕ} {site : Site} (s : Standing image starts nets site) {task : Task} {family values scratch out scratch' out' : List ℕ} {r : Sheet}
  where
    -- What is known of one kind of task.
    pub told : (kind : Task) → task ≡ kind
        → Done kind family site.number values scratch out s.ms s.found.m scratch' out' r
        → Done task family site.number values scratch out s.ms s.found.m scratch' out' r
    told kind is = subst (λ (t : Task). Done t family site.number values scratch out s.ms s.found.m scratch' out' r) (sym is)

    pub runs : {run : Result Run Refusal} → task ≡ Evaluate → r.ran ≡ run
        → Runs (running_on site.number values (length scratch) (length out) s.ms s.found.m) scratch out scratch' out' run
        → Done task family site.number values scratch out s.ms s.found.m scratch' out' r
    runs is written ran = told Evaluate is (record { done = rw written ran })

    pub runs-rows : {run : Result Run Refusal} (rows : ℕ) → task ≡ Rows rows → r.ran ≡ run
        → Runs (rows_running_on site.number rows values (length scratch) (length out) s.ms s.found.m) scratch out scratch' out' run
        → Done task family site.number values scratch out s.ms s.found.m scratch' out' r
    runs-rows rows is written ran = told (Rows rows) is (record { done = rw written ran })

    pub counts : {c : Result Figures Refusal} → task ≡ Own Count → r.counted ≡ c
        → Counts (summary_on family site.number (length scratch) s.ms s.found.m) scratch scratch' c
        → Done task family site.number values scratch out s.ms s.found.m scratch' out' r
    counts is written counted = told (Own Count) is (record { done = rw written counted })

    pub flattens : {w : Result ℕ Refusal} → task ≡ Own Flatten → r.wrote ≡ w
        → Settles (flattening_on site.number (length scratch) (length out) s.ms s.found.m) scratch out scratch' out' w
        → Done task family site.number values scratch out s.ms s.found.m scratch' out' r
    flattens is written settles = told (Own Flatten) is (record { done = rw written settles })
