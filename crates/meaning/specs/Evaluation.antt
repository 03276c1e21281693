-- What a module means (document 01): occurrences run from first to last; each gate or module that is referred to gets the values
-- of its arguments in order and gives values to the nets it drives, in order; the answers are the values of the outputs, in order.
-- One interpreter serves every kind of value: what a gate makes of its arguments is a parameter, and so is what a net reads as
-- that nothing gave a value (in a file that passes the check there is none).
use Rattle.std.specs.Prelude.{ℕ, false, cond, List, [], ◌∷◌, ◌++◌, eqb}
use Rattle.meaning.specs.Syntax.{Occurrence, Module}
use Rattle.meaning.specs.Gates.{is_gate, gate_value}
use Rattle.meaning.specs.Values.{Val, known}

-- The values of nets: an association list by net number.
pub record Binding (A : Type 0) : Type 0 where
  pub net : ℕ
  pub value : A

abbrev pub Env : Type 0 → Type 0
Env A = List (Binding A)

-- The value of a net.
unfoldable pub look : {A : Type 0} → A → ℕ → Env A → A
look none net [] = none
look none net (b ∷ bs) = cond (eqb net b.net) b.value (look none net bs)

-- The values of nets, in order.
unfoldable pub look_all : {A : Type 0} → A → List ℕ → Env A → List A
look_all none [] env = []
look_all none (net ∷ nets) env = look none net env ∷ look_all none nets env

-- Nets given values, in order.
unfoldable pub pairs : {A : Type 0} → A → List ℕ → List A → Env A
pairs none [] vs = []
pairs none (net ∷ nets) [] = record { net = net; value = none } ∷ pairs none nets []
pairs none (net ∷ nets) (v ∷ vs) = record { net = net; value = v } ∷ pairs none nets vs

-- What the number referred to, a gate or one of the later modules, makes of its arguments.
abbrev pub Meaning : Type 0 → Type 0
Meaning A = ℕ → List A → List A

abbrev pub apply : {A : Type 0} → (gate_meaning later : Meaning A) → Meaning A
apply gate_meaning later number vs = cond (is_gate number) (gate_meaning number vs) (later number vs)

-- Occurrences from first to last.
unfoldable pub walk : {A : Type 0} → A → (gate_meaning later : Meaning A) → List Occurrence → Env A → Env A
walk none gate_meaning later [] env = env
walk none gate_meaning later (o ∷ os) env =
    walk none gate_meaning later os
    (pairs none o.drives (apply gate_meaning later o.refers (look_all none o.takes env)) ++ env)

-- A module on the values of its inputs.
unfoldable pub run_module : {A : Type 0} → A → (gate_meaning later : Meaning A) → Module → List A → List A
run_module none gate_meaning later m vs =
    look_all none m.outputs (walk none gate_meaning later m.occurrences (pairs none m.inputs vs))

-- The module of a number in a list: the first that has it, its references among the modules after it.
unfoldable pub run : {A : Type 0} → A → Meaning A → List Module → Meaning A
run none gate_meaning [] number vs = []
run none gate_meaning (m ∷ ms) number vs =
    cond (eqb number m.number) (run_module none gate_meaning (run none gate_meaning ms) m vs) (run none gate_meaning ms number vs)

-- Evaluation on three values.
abbrev pub gate_outputs : Meaning Val
gate_outputs number vs = gate_value number vs ∷ []

unfoldable pub evaluate : List Module → Meaning Val
evaluate = run (known false) gate_outputs
