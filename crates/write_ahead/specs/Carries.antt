-- The bytes of the occurrences of module 41, by their nets: what is driven, the carry, and P of the trees.
use Rattle.std.specs.Prelude.{ℕ, suc, ◌+◌, ◌*◌, List, [], ◌∷◌}
use Rattle.meaning.specs.Syntax.{Occurrence}
use Rattle.meaning.specs.Layout.{each, occurrence_numbers, number_bytes}
use Rattle.meaning.specs.Adder.{up_from}
use Rattle.meaning.specs.FastAdder.{gate_on3, AND3}

-- The bytes of occurrences.
abbrev pub bytes_of : List Occurrence → List ℕ
bytes_of os = each number_bytes (each occurrence_numbers os)

-- The carry behind one tree, and behind two.
abbrev pub one_bytes : (n net carry p : ℕ) → List ℕ
one_bytes n net carry p =
    each number_bytes (occurrence_numbers (record { drives = net ∷ []; refers = 42; takes = carry ∷ p ∷ (p + n) ∷ [] }))

abbrev pub over_two : (n net carry low high : ℕ) → Occurrence
over_two n net carry low high =
    record { drives = net ∷ []; refers = 43; takes = carry ∷ low ∷ (low + n) ∷ high ∷ (high + n) ∷ [] }

abbrev pub two_bytes : (n net carry low high : ℕ) → List ℕ
two_bytes n net carry low high = each number_bytes (occurrence_numbers (over_two n net carry low high))

-- The carries by module 41: on the nets behind that of the carry into the lowest bit, from that carry and from p and g of each bit.
abbrev pub ahead_from : (n carry first : ℕ) → Occurrence
ahead_from n carry first = record { drives = up_from (suc carry) n; refers = 41; takes = carry ∷ up_from first (2 * n) }

-- P and G of a node.
abbrev pub join_bytes : (n p x y z : ℕ) → List ℕ
join_bytes n p x y z = bytes_of (gate_on3 p AND3 x y z ∷ over_two n (p + n) (x + n) y z ∷ [])
