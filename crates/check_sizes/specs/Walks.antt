-- The sums over occurrences of a module, by tables of the later modules' figures.
use Rattle.std.specs.Prelude.{ℕ, ◌+◌, ◌-◌, max, ◌≡◌, cond, List, get_or}
use Rattle.meaning.specs.Syntax.{Occurrence}
use Rattle.meaning.specs.Gates.{is_gate}
use Rattle.meaning.specs.Limits.{body_size}
use Rattle.meaning.specs.Figures.{largest_referred}
use Rattle.check_sizes.specs.declared.Sums.{Sums}

-- Over no occurrence, with a gate more, and with the module at position j more.
abbrev pub no_sums : Sums
no_sums = record { size = 0; room = 0 }

abbrev pub plus_gate : Sums → Sums
plus_gate s = record { size = s.size + 1; room = s.room }

abbrev pub plus_module : (sizes rooms : List ℕ) → Sums → (j : ℕ) → Sums
plus_module sizes rooms s j = record { size = s.size + (1 + get_or sizes j 0); room = max s.room (get_or rooms j 0) }

-- An image refers to a module by 16 plus its position, and there a table has its entry.
abbrev pub entry : (table : List ℕ) (to : ℕ) → ℕ
entry table to = get_or table (to - 16) 0

-- What a table says of a number that is referred to: nothing of a gate.
abbrev pub figure : (table : List ℕ) (to : ℕ) → ℕ
figure table to = cond (is_gate to) 0 (entry table to)

-- With one reference of the image more.
abbrev pub plus : (sizes rooms : List ℕ) → Sums → (to : ℕ) → Sums
plus sizes rooms s to = record { size = s.size + (1 + figure sizes to); room = max s.room (figure rooms to) }

-- Expanded size and largest room referred to, by the tables, over all occurrences of a module as the image has them.
pub record Summed (sizes rooms : List ℕ) (os : List Occurrence) (s : Sums) : Type 0 where
  pub sized : s.size ≡ body_size (entry sizes) os
  pub roomed : s.room ≡ largest_referred (entry rooms) os
