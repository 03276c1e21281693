-- A refusal answers whatever is asked.
use Rattle.refusals.specs.Refused.{refusal_at}
use Prim.Native.Nat.{ℕ}
use mathlib.Core.Path.{◌≡◌, refl, sym, ap, subst}
use mathlib.Core.List.{List}
use lib.ListN.{length, drop}
use Rattle.meaning.specs.Syntax.{Module}
use Rattle.meaning.specs.Boxlist.{assoc}
use Rattle.meaning.specs.Verdict.{refused, verdict}
use Rattle.meaning.specs.Calls.{Decision, refusal, answer, on_file, on_module, module_count, number_at, first_number}
use Rattle.open_file.specs.Opening.{refused-ends}
use Rattle.answers.specs.Contents.{found_of}
use Rattle.call_door.specs.declared.asks.Ask.{Ask}
use Rattle.call_door.specs.declared.asks.Ask.TheVariants.{Modules, NumberAt, Of}
use Rattle.call_door.specs.declared.asks.Task.{Task}
use Rattle.call_door.specs.declared.asks.Task.TheVariants.{Evaluate, Rows, Own}
use Rattle.call_door.specs.declared.asks.Own.TheVariants.{Count, Flatten}
use Rattle.call_door.specs.declared.asks.Sheet.{Sheet}
use Rattle.call_door.specs.Asks.{refused_sheet, Outcome, decides, Gives, Meets}

module _ (n p : ℕ) (scratch out : List ℕ) where
  plainly : (task : Task) → Gives task (refusal n p) scratch out scratch out (refused_sheet (refusal_at n p))
  plainly Evaluate = record { settled = record { answered = record { is = refl; out = refl }; scratched = refl }; worked = refl }
  plainly (Rows rows) = record { settled = record { answered = record { is = refl; out = refl }; scratched = refl }; worked = refl }
  plainly (Own Count) = record { is = refl; scratch = refl }
  plainly (Own Flatten) = record { answered = record { is = refl; out = refl }; scratched = refl }

  module _ (family file values : List ℕ) where
    -- The module of the number is not to be had.
    pub task_refused :
        (number : ℕ) (task : Task)
        → ((ask : List Module → Module → Decision (Outcome task)) → on_file file (λ ms. on_module (assoc number ms) (ask ms)) ≡ refusal n p)
        → Meets (Of task number) family file values scratch out scratch out (refused_sheet (refusal_at n p))
    task_refused number task ends =
        record {
          met =
              subst (λ (d : Decision (Outcome task)). Gives task d scratch out scratch out (refused_sheet (refusal_at n p)))
              (sym (ends (decides task family number values (length scratch) (length out)))) (plainly task);
        }

    -- The file is refused.
    ask_refused : verdict file ≡ refused n p → (ask : Ask) → Meets ask family file values scratch out scratch out (refused_sheet (refusal_at n p))
    unfolding module_count number_at
    ask_refused e Modules = record { met = sym (ap found_of (refused-ends file n p e (λ ms. answer (length ms)))) }
    ask_refused e (NumberAt position) = record { met = sym (ap found_of (refused-ends file n p e (λ ms. first_number (drop position ms)))) }
    ask_refused e (Of task number) = task_refused number task (λ ask. refused-ends file n p e (λ ms. on_module (assoc number ms) (ask ms)))

pub refused_meets :
    {n p : ℕ} (ask : Ask) {family file values scratch out : List ℕ} {r : Sheet} → verdict file ≡ refused n p → r ≡ refused_sheet (refusal_at n p)
    → Meets ask family file values scratch out scratch out r
refused_meets {n} {p} ask {family} {file} {values} {scratch} {out} e is = rw is (ask_refused n p scratch out family file values e ask)
