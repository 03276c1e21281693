-- Our own limits on a module, beside the rules of document 000: its number, its nets, its expanded size.
use Rattle.std.specs.Prelude.{ℕ, suc, ◌+◌, Bool, cond, not, List, [], ◌∷◌, ◌++◌, eqb, leb, length}
use Rattle.meaning.specs.Syntax.{Occurrence, Module}
use Rattle.meaning.specs.Gates.{is_gate}

-- The nets that a list of occurrences drives, in order.
unfoldable pub driven : List Occurrence → List ℕ
driven [] = []
driven (o ∷ os) = o.drives ++ driven os

-- The nets of a module: inputs and driven nets.
unfoldable pub net_count : Module → ℕ
net_count m = length m.inputs + length (driven m.occurrences)

-- Expanded size: over the occurrences, one for each, plus the expanded size of the module referred to, if it is a module.
-- `later` is the expanded size of each number among the later modules.
unfoldable pub body_size : (later : ℕ → ℕ) → List Occurrence → ℕ
body_size later [] = 0
body_size later (o ∷ os) = suc (cond (is_gate o.refers) 0 (later o.refers)) + body_size later os

-- The expanded size of the module of a number: of the first that has it, its references among the modules after it.
unfoldable pub expanded_size : List Module → ℕ → ℕ
expanded_size [] number = 0
expanded_size (m ∷ ms) number = cond (eqb number m.number) (body_size (expanded_size ms) m.occurrences) (expanded_size ms number)

abbrev pub most_module_nets : ℕ
most_module_nets = 4096

abbrev pub most_size : ℕ
most_size = 65535

-- Each limit by name, for a module in front of the later ones.
abbrev pub number_ok : Module → Bool
number_ok m = not (is_gate m.number)

abbrev pub nets_ok : Module → Bool
nets_ok m = leb (net_count m) most_module_nets

abbrev pub size_ok : Module → List Module → Bool
size_ok m later = leb (body_size (expanded_size later) m.occurrences) most_size
