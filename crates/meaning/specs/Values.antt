-- The three values of a net: false, true, unknown. As numbers they are 0, 1 and 2. An input may also be 3, which floats (document 02,
-- M-106): it is unknown, as every number above 1 is. So a value is known where its number is 0 or 1, and no value has the number 3.
use Rattle.std.specs.Prelude.{ℕ, Bool, true, false, cond, List, [], ◌∷◌, eqb}

pub data Val : Type 0 where
  known : Bool → Val
  un : Val

abbrev pub value : ℕ → Val
value n = cond (eqb n 0) (known false) (cond (eqb n 1) (known true) un)

-- The number of an input that floats, the highest that an input may have.
abbrev pub floating : ℕ
floating = 3

abbrev pub code : Val → ℕ
code (known false) = 0
code (known true) = 1
code un = 2

-- A filling of values puts a Boolean in each unknown place, each place by itself, and leaves the known ones.
pub data Fills : List Val → List Bool → Type 0 where
  done : Fills [] []
  kept : {b : Bool} {vs : List Val} {bs : List Bool} → Fills vs bs → Fills (known b ∷ vs) (b ∷ bs)
  put : {b : Bool} {vs : List Val} {bs : List Bool} → Fills vs bs → Fills (un ∷ vs) (b ∷ bs)

-- What two results have in common: their value where both know it and it is the same, else unknown.
abbrev pub common : Val → Val → Val
common (known true) (known true) = known true
common (known true) (known false) = un
common (known true) un = un
common (known false) (known true) = un
common (known false) (known false) = known false
common (known false) un = un
common un v = un

-- The value that every filling of the arguments gives, or unknown where two fillings differ.
unfoldable pub by_fillings : (List Bool → Bool) → List Val → Val
by_fillings f [] = known (f [])
by_fillings f (known b ∷ vs) = by_fillings (λ bs. f (b ∷ bs)) vs
by_fillings f (un ∷ vs) = common (by_fillings (λ bs. f (false ∷ bs)) vs) (by_fillings (λ bs. f (true ∷ bs)) vs)
