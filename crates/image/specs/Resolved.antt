-- Resolution: a map from files to files. Each net becomes its slot in its module's frame (inputs first, then driven nets in the order
-- driven), each module's number 16 plus its position, and each reference to a module likewise; gates keep their numbers.
-- The image is the list of numbers of the resolved file, so it has the layout of the file's own numbers.
use Rattle.std.specs.Prelude.{ℕ, suc, ◌+◌, cond, List, [], ◌∷◌, ◌++◌, map, eqb}
use Rattle.meaning.specs.Syntax.{Occurrence, Module}
use Rattle.meaning.specs.Gates.{is_gate}
use Rattle.meaning.specs.Limits.{driven}
use Rattle.nets.specs.Slots.{slot_of}

-- The nets of a module in the order of their slots.
unfoldable pub nets_of : Module → List ℕ
nets_of m = m.inputs ++ driven m.occurrences

-- The position of the first module of a number in a list that has it.
unfoldable pub position_of : ℕ → List Module → ℕ
position_of x [] = 0
position_of x (m ∷ ms) = cond (eqb x m.number) 0 (suc (position_of x ms))

unfoldable pub refer_to : List Module → ℕ → ℕ
refer_to ms number = cond (is_gate number) number (16 + position_of number ms)

abbrev pub slot_in : Module → ℕ → ℕ
slot_in m net = slot_of net (nets_of m)

abbrev pub resolve_occurrence : (slot refer : ℕ → ℕ) → Occurrence → Occurrence
resolve_occurrence slot refer o = record { drives = map slot o.drives; refers = refer o.refers; takes = map slot o.takes }

unfoldable pub resolve_module : (refer : ℕ → ℕ) → (position : ℕ) → Module → Module
resolve_module refer position m =
    record {
      number = 16 + position;
      inputs = map (slot_in m) m.inputs;
      outputs = map (slot_in m) m.outputs;
      occurrences = map (resolve_occurrence (slot_in m) refer) m.occurrences;
    }

unfoldable pub resolve_from : (refer : ℕ → ℕ) → (position : ℕ) → List Module → List Module
resolve_from refer position [] = []
resolve_from refer position (m ∷ ms) = resolve_module refer position m ∷ resolve_from refer (suc position) ms

unfoldable pub resolve : List Module → List Module
resolve ms = resolve_from (refer_to ms) 0 ms
