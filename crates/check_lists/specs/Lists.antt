-- What reading a list of nets with its count, and putting slots in the places of its nets, asks and answers.
use Rattle.std.specs.Prelude.{ℕ, ◌+◌, ◌≤◌, ◌^◌, ◌≡◌, Bool, not, ◌&&◌, List, ◌++◌, map, length, drop}
use Rattle.meaning.specs.Layout.{list_numbers}
use Rattle.meaning.specs.Boxlist.{disjoint, duplicates, subset}
use Rattle.nets.specs.Slots.{Knows, Below, slot_of}
use Rattle.nets.specs.Fronts.{Front}
use Rattle.image.specs.Stands.{Stands}
use Rattle.image.specs.Laid.{laid}

-- A list stands at the place.
pub record Listed (numbers : List ℕ) (at : ℕ) : Type 0 where
  pub list : List ℕ
  pub stands : Stands numbers at (list_numbers list)

-- A place is behind the list whose count stands at another.
abbrev pub Behind : (numbers : List ℕ) → (at e : ℕ) → Type 0
Behind numbers at e = (list : List ℕ) → Stands numbers at (list_numbers list) → e ≡ at + 1 + length list

-- What putting slots in its nets' places asks: the nets are indices of the table, and slots fit a number.
pub record ListReady (numbers slots : List ℕ) (base at limit : ℕ) : Type 0 where
  pub listed : Listed numbers at
  pub in_slots : Below (length slots) listed.list
  pub few : limit ≤ 65536
  pub high : base + 65536 ≤ 2 ^ 32
  pub short : length numbers ≤ 65535

-- The nets of a list are new: no two of them are the same, and none stands in the other list.
abbrev pub apart : (list nets : List ℕ) → Bool
apart list nets = not (duplicates list) && disjoint list nets

-- A list of nets behind `nets`: a count at its front, of all nets just if they are new, and then what the table knows and what stands in
-- their places. No entry of the table is above the slots of the base.
pub record ListLearnt (numbers slots : List ℕ) (base at first : ℕ) (slots' numbers' : List ℕ) (r : ℕ) : Type 0 where
  pub learnt :
      (list nets : List ℕ) → Stands numbers at (list_numbers list) → Knows slots base nets → first ≡ length nets
      → Front list (apart list nets) r
      × (r ≡ length list → Knows slots' base (nets ++ list))
      × (r ≡ length list → numbers' ≡ laid numbers at (list_numbers (map (λ (x : ℕ). slot_of x (nets ++ list)) list)))
  pub low : Below (base + 65536) slots → Below (base + 65536) slots'

-- A list of nets where the table knows `more` behind `nets`: a count at its front, of all nets just if they are among `nets`, and then what
-- stands in their places. What stands behind the list is as it was.
pub record ListWritten (numbers slots : List ℕ) (base at limit : ℕ) (numbers' : List ℕ) (r : ℕ) : Type 0 where
  pub written :
      (list nets more : List ℕ) → Stands numbers at (list_numbers list) → Knows slots base (nets ++ more) → limit ≡ length nets
      → Front list (subset list nets) r
      × (r ≡ length list → numbers' ≡ laid numbers at (list_numbers (map (λ (x : ℕ). slot_of x (nets ++ more)) list)))
  pub behind : (list : List ℕ) → Stands numbers at (list_numbers list) → drop (at + 1 + length list) numbers' ≡ drop (at + 1 + length list) numbers
