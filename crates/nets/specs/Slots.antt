-- The slots of a module's nets: inputs first, then driven nets in the order driven, each net at its place in that list.
use Rattle.std.specs.Prelude.{◌≡◌, ℕ, suc, ◌+◌, ◌<◌, true, false, cond, List, [], ◌∷◌, ◌==◌, slice_index}
use Rattle.meaning.specs.Boxlist.{member}

-- The place of a net in a list that has it.
unfoldable pub slot_of : ℕ → List ℕ → ℕ
slot_of x [] = 0
slot_of x (y ∷ ys) = cond (x == y) 0 (suc (slot_of x ys))

-- A table indexed by net number knows just the nets of a list. Its entry for a net that it knows is `base` plus the net's slot, for
-- any other below `base`: so one table serves module after module, with a higher base each time and nothing to clear.
pub record Knows (table : List ℕ) (base : ℕ) (nets : List ℕ) : Type 0 where
  pub inside : (x : ℕ) → member x nets ≡ true → slice_index table x ≡ base + slot_of x nets
  pub outside : (x : ℕ) → member x nets ≡ false → slice_index table x < base

-- Every entry is below a bound.
pub record Below (bound : ℕ) (xs : List ℕ) : Type 0 where
  pub below : (i : ℕ) → slice_index xs i < bound
