-- The shelf file: which numbers stand in a file, in order, and the bytes of each.
use Rattle.std.specs.Prelude.{ℕ, ◌+◌, ◌/◌, ◌%◌, cond, List, [], ◌∷◌, ◌++◌, ltb, length}
use Rattle.meaning.specs.Syntax.{Occurrence, Module}

-- One list after the other, of what f makes of each entry.
unfoldable pub each : {A : Type 0} → (A → List ℕ) → List A → List ℕ
each f [] = []
each f (x ∷ xs) = f x ++ each f xs

-- Count and list.
abbrev pub list_numbers : List ℕ → List ℕ
list_numbers nets = length nets ∷ nets

-- An occurrence is: count and list of nets that it drives; the number it refers to; count and list of argument nets.
unfoldable pub occurrence_numbers : Occurrence → List ℕ
occurrence_numbers o = list_numbers o.drives ++ (o.refers ∷ list_numbers o.takes)

-- A module is: its number; count and list of inputs; count and list of outputs; count and list of occurrences.
unfoldable pub module_numbers : Module → List ℕ
module_numbers m =
    m.number
    ∷ (list_numbers m.inputs
    ++ (list_numbers m.outputs ++ (length m.occurrences ∷ each occurrence_numbers m.occurrences)))

-- A file is: the count of modules, then the modules.
unfoldable pub file_numbers : List Module → List ℕ
file_numbers ms = length ms ∷ each module_numbers ms

-- A number is written in groups of seven bits, low group first; a byte of 128 or more says that another group follows.
unfoldable pub number_bytes : ℕ → List ℕ
number_bytes n = cond (ltb n 128) (n ∷ []) ((128 + n % 128) ∷ (n / 128) ∷ [])

unfoldable pub encode : List Module → List ℕ
encode ms = each number_bytes (file_numbers ms)
