-- Load (document 01, 'What a module means', as request M-101 of document 02 has it): the load of a net in a module is each place where
-- it stands as an argument, which adds 1 at a gate and at a module the load of that input inside it, and, where a module drives it,
-- the load of that output inside that module.
use Rattle.std.specs.Prelude.{ℕ, ◌+◌, max, cond, List, [], ◌∷◌, ◌++◌, map, eqb, length, replicate}
use Rattle.meaning.specs.Syntax.{Occurrence, Module}
use Rattle.meaning.specs.Gates.{is_gate}
use Rattle.meaning.specs.Limits.{driven}
use Rattle.meaning.specs.Figures.{largest, largest_referred}

-- What the places of a list add to the load of a net, where `loads` are what each place adds, in order.
unfoldable pub places_load : (net : ℕ) → (places loads : List ℕ) → ℕ
places_load net [] loads = 0
places_load net (x ∷ xs) [] = 0
places_load net (x ∷ xs) (l ∷ ls) = cond (eqb net x) l 0 + places_load net xs ls

-- The loads of inputs and of outputs, in order, inside what has them.
pub record Loads : Type 0 where
  pub inputs : List ℕ
  pub outputs : List ℕ

-- Inside a gate each argument has load 1, and the net that it drives none.
abbrev pub gate_loads : Occurrence → Loads
gate_loads o = record { inputs = replicate (length o.takes) 1; outputs = 0 ∷ [] }

abbrev pub referred_loads : (later : ℕ → Loads) → Occurrence → Loads
referred_loads later o = cond (is_gate o.refers) (gate_loads o) (later o.refers)

-- The load of a net among occurrences.
unfoldable pub net_load : (later : ℕ → Loads) → List Occurrence → (net : ℕ) → ℕ
net_load later [] net = 0
net_load later (o ∷ os) net =
    places_load net o.takes (referred_loads later o).inputs
    + places_load net o.drives (referred_loads later o).outputs
    + net_load later os net

-- The loads of a module's inputs and of its outputs inside it.
abbrev pub module_loads : (later : ℕ → Loads) → Module → Loads
module_loads later m =
    record {
      inputs = map (net_load later m.occurrences) m.inputs;
      outputs = map (net_load later m.occurrences) m.outputs;
    }

unfoldable pub loads_inside : List Module → ℕ → Loads
loads_inside [] number = record { inputs = []; outputs = [] }
loads_inside (m ∷ ms) number = cond (eqb number m.number) (module_loads (loads_inside ms) m) (loads_inside ms number)

-- Largest load: over the module's own nets and those of the modules reached, 0 if there are none.
abbrev pub largest_in : (inside : ℕ → Loads) (later : ℕ → ℕ) → Module → ℕ
largest_in inside later m =
    max (largest (map (net_load inside m.occurrences) (m.inputs ++ driven m.occurrences)))
    (largest_referred later m.occurrences)

unfoldable pub largest_load : List Module → ℕ → ℕ
largest_load [] number = 0
largest_load (m ∷ ms) number = cond (eqb number m.number) (largest_in (loads_inside ms) (largest_load ms) m) (largest_load ms number)
