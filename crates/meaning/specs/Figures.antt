-- The figures of a module (document 01, 'What a module means'): gates, tally, room, arrival and delay. Each is a function of
-- the list of modules and the module's number: of the first module that has it, its references among the modules after it.
-- Expanded size stands among the limits, load in a file of its own.
use Rattle.std.specs.Prelude.{ℕ, ◌+◌, max, cond, List, [], ◌∷◌, map, eqb, length, replicate}
use Rattle.meaning.specs.Syntax.{Occurrence, Module}
use Rattle.meaning.specs.Gates.{is_gate}
use Rattle.meaning.specs.Boxlist.{Found, box, F, assoc}
use Rattle.meaning.specs.Limits.{net_count}
use Rattle.meaning.specs.Evaluation.{Meaning, run}

-- The largest of a list, 0 where it is empty.
unfoldable pub largest : List ℕ → ℕ
largest [] = 0
largest (x ∷ xs) = max x (largest xs)

-- The gates reached from a module, each counted with its weight once for each time it is reached.
unfoldable pub body_weight : (weight later : ℕ → ℕ) → List Occurrence → ℕ
body_weight weight later [] = 0
body_weight weight later (o ∷ os) =
    cond (is_gate o.refers) (weight o.refers) (later o.refers) + body_weight weight later os

unfoldable pub gate_weight : (weight : ℕ → ℕ) → List Module → ℕ → ℕ
gate_weight weight [] number = 0
gate_weight weight (m ∷ ms) number =
    cond (eqb number m.number) (body_weight weight (gate_weight weight ms) m.occurrences) (gate_weight weight ms number)

-- Gates: counted once for each time they are reached.
unfoldable pub gate_count : List Module → ℕ → ℕ
gate_count = gate_weight (λ kind. 1)

-- Tally: a record of sixteen gate counts, one a kind.
unfoldable pub kind_count : (kind : ℕ) → List Module → ℕ → ℕ
kind_count kind = gate_weight (λ other. cond (eqb other kind) 1 0)

unfoldable pub tally : List Module → ℕ → List ℕ
tally ms number =
    map (λ kind. kind_count kind ms number)
    (0 ∷ 1 ∷ 2 ∷ 3 ∷ 4 ∷ 5 ∷ 6 ∷ 7 ∷ 8 ∷ 9 ∷ 10 ∷ 11 ∷ 12 ∷ 13 ∷ 14 ∷ 15 ∷ [])

-- Room: the module's nets, plus the largest room among modules it refers to, 0 if it refers to none.
unfoldable pub largest_referred : (later : ℕ → ℕ) → List Occurrence → ℕ
largest_referred later [] = 0
largest_referred later (o ∷ os) = max (cond (is_gate o.refers) 0 (later o.refers)) (largest_referred later os)

unfoldable pub room : List Module → ℕ → ℕ
room [] number = 0
room (m ∷ ms) number =
    cond (eqb number m.number) (net_count m + largest_referred (room ms) m.occurrences) (room ms number)

-- Arrival: a gate's net arrives after its latest argument by the delay of the gate's kind; a module referred to starts from its
-- arguments' arrivals.
abbrev pub gate_arrival : (delay : ℕ → ℕ) → Meaning ℕ
gate_arrival delay kind times = (delay kind + largest times) ∷ []

unfoldable pub arrivals : (delay : ℕ → ℕ) → List Module → Meaning ℕ
arrivals delay = run 0 (gate_arrival delay)

-- How many inputs the module of a number has, and how many outputs.
abbrev pub input_count : Found → ℕ
input_count (box m) = length m.inputs
input_count F = 0

abbrev pub output_count : Found → ℕ
output_count (box m) = length m.outputs
output_count F = 0

-- Delay: the latest arrival among outputs, from 0 at the module's inputs, 0 where there are none.
unfoldable pub delay_by : (delay : ℕ → ℕ) → List Module → ℕ → ℕ
delay_by delay ms number = largest (arrivals delay ms number (replicate (input_count (assoc number ms)) 0))

-- Unit delay: a gate's net arrives one after its latest argument.
unfoldable pub delay : List Module → ℕ → ℕ
delay = delay_by (λ kind. 1)
