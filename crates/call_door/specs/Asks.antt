-- What is promised of the answer, for each thing that can be asked.
use Rattle.std.specs.Prelude.{Err}
use Rattle.refusals.specs.declared.Refusal.{Refusal}
use Rattle.std.specs.Prelude.{ℕ, ◌≤◌, ◌≡◌, List, length}
use Rattle.meaning.specs.Syntax.{Module}
use Rattle.meaning.specs.Boxlist.{assoc}
use Rattle.meaning.specs.Calls.{Decision, on_file, on_module, Written, flattening_on, module_count, number_at}
use Rattle.meaning.specs.Family.{Summary, summary_on}
use Rattle.meaning.specs.Work.{Ran, running_on, rows_running_on}
use Rattle.answers.specs.Settled.{Settles}
use Rattle.answers.specs.Running.{Runs}
use Rattle.call_count.specs.Answers.{Counts}
use Rattle.answers.specs.Contents.{found_of}
use Rattle.open_finding.specs.declared.Site.{Site}
use Rattle.call_door.specs.declared.asks.Ask.{Ask}
use Rattle.call_door.specs.declared.asks.Ask.TheVariants.{Modules, NumberAt, Of}
use Rattle.call_door.specs.declared.asks.Task.{Task}
use Rattle.call_door.specs.declared.asks.Task.TheVariants.{Evaluate, Rows, Own}
use Rattle.call_door.specs.declared.asks.Own.{Own as Kind}
use Rattle.call_door.specs.declared.asks.Own.TheVariants.{Count, Flatten}
use Rattle.call_door.specs.declared.asks.Sheet.{Sheet}

-- A refusal, in every field.
abbrev pub refused_sheet : Refusal → Sheet
refused_sheet r = record { ran = Err r; counted = Err r; wrote = Err r; listed = Err r; named = Err r }

-- Short lists serve on a module of a short file.
abbrev pub InShort : Kind → Site → Type 0
InShort Count site = 0 ≤ site.size
InShort Flatten site = (site.size ≤ 832) × (site.room ≤ 1024)

-- What is asked of a module comes to one of these,
abbrev pub Outcome : Task → Type 0
Outcome Evaluate = Ran
Outcome (Rows rows) = Ran
Outcome (Own Count) = Summary
Outcome (Own Flatten) = Written

-- decided so once the module is found,
abbrev pub decides : (task : Task) (family : List ℕ) (number : ℕ) (values : List ℕ) (scratch out : ℕ) (ms : List Module) → Module → Decision (Outcome task)
decides Evaluate family number values scratch out ms m = running_on number values scratch out ms m
decides (Rows rows) family number values scratch out ms m = rows_running_on number rows values scratch out ms m
decides (Own Count) family number values scratch out ms m = summary_on family number scratch ms m
decides (Own Flatten) family number values scratch out ms m = flattening_on number scratch out ms m

-- and given so.
abbrev pub Gives : (task : Task) → Decision (Outcome task) → (scratch out scratch' out' : List ℕ) → Sheet → Type 0
Gives Evaluate d scratch out scratch' out' r = Runs d scratch out scratch' out' r.ran
Gives (Rows rows) d scratch out scratch' out' r = Runs d scratch out scratch' out' r.ran
Gives (Own Count) d scratch out scratch' out' r = Counts d scratch scratch' r.counted
Gives (Own Flatten) d scratch out scratch' out' r = Settles d scratch out scratch' out' r.wrote

pub record Done (task : Task) (family : List ℕ) (number : ℕ) (values scratch out : List ℕ) (ms : List Module) (m : Module) (scratch' out' : List ℕ) (r : Sheet) : Type 0 where
  pub done : Gives task (decides task family number values (length scratch) (length out) ms m) scratch out scratch' out' r

-- What is asked of a file.
abbrev pub Met : Ask → (family file values scratch out scratch' out' : List ℕ) → Sheet → Type 0
Met Modules family file values scratch out scratch' out' r = r.listed ≡ found_of (module_count file)
Met (NumberAt position) family file values scratch out scratch' out' r = r.named ≡ found_of (number_at file position)
Met (Of task number) family file values scratch out scratch' out' r =
    Gives task (on_file file λ ms. on_module (assoc number ms) (decides task family number values (length scratch) (length out) ms))
    scratch out scratch' out' r

pub record Meets (ask : Ask) (family file values scratch out scratch' out' : List ℕ) (r : Sheet) : Type 0 where
  pub met : Met ask family file values scratch out scratch' out' r
