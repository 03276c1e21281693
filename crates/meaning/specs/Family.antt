-- A second chip family (document 02, M-108): a record of sixteen delays, 0 to 255, in gate order. A module's arrivals and its delay are
-- worked out with these as they are with one for every gate.
use Rattle.std.specs.Prelude.{ℕ, ◌≡◌, cond, List, eqb, length, get_or, replicate}
use Rattle.meaning.specs.Syntax.{Module}
use Rattle.meaning.specs.Boxlist.{assoc}
use Rattle.meaning.specs.Ceilings.{Bytes}
use Rattle.meaning.specs.Evaluation.{look, pairs, walk}
use Rattle.meaning.specs.Figures.{gate_arrival, arrivals, delay_by}
use Rattle.meaning.specs.Calls.{Decision, refusal, answer, on_file, on_module, Figures, counting_on}

pub record Family (family : List ℕ) : Type 0 where
  pub sixteen : length family ≡ 16
  pub bytes : Bytes family

-- All delays 1.
abbrev pub unit_family : List ℕ
unit_family = replicate 16 1

-- The family of a file's bytes: sixteen of them, or else the unit family.
abbrev pub family_of : (bytes : List ℕ) → List ℕ
family_of bytes = cond (eqb (length bytes) 16) bytes unit_family

-- The delay of a kind of gate.
abbrev pub delay_in : (family : List ℕ) → (kind : ℕ) → ℕ
delay_in family kind = get_or family kind 0

-- When a net of a module arrives, from the times at which the module's inputs do; `later` are the modules behind it.
unfoldable pub net_arrival : (family : List ℕ) (later : List Module) → Module → (times : List ℕ) → (net : ℕ) → ℕ
net_arrival family later m times net =
    look 0 net (walk 0 (gate_arrival (delay_in family)) (arrivals (delay_in family) later) m.occurrences (pairs 0 m.inputs times))

-- The family's delay: the latest arrival among outputs, from 0 at the module's inputs.
unfoldable pub family_delay : (family : List ℕ) → List Module → ℕ → ℕ
family_delay family = delay_by (delay_in family)

-- The summary of a module: its figures, unit delay among them, and beside them the family's delay.
pub record Summary : Type 0 where
  pub figures : Figures
  pub family_delay : ℕ

abbrev pub with_family : Decision Figures → (family_delay : ℕ) → Decision Summary
with_family (refusal number place) family_delay = refusal number place
with_family (answer f) family_delay = answer (record { figures = f; family_delay = family_delay })

abbrev pub summary_on : (family : List ℕ) (number scratch : ℕ) (ms : List Module) → Module → Decision Summary
summary_on family number scratch ms m = with_family (counting_on number scratch ms m) (family_delay family ms number)

-- Counts with a family: 18, 21.
unfoldable pub summary : (file : List ℕ) (number : ℕ) (family : List ℕ) (scratch : ℕ) → Decision Summary
summary file number family scratch = on_file file λ ms. on_module (assoc number ms) (summary_on family number scratch ms)

-- The count in it.
abbrev pub figures_in : Decision Summary → Decision Figures
figures_in (refusal number place) = refusal number place
figures_in (answer s) = answer s.figures
