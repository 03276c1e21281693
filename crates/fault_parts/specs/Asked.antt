-- What the functions ask: the numbers of a file, and where its modules stand among them; and what a table of marks knows.
use Rattle.std.specs.Prelude.{ℕ, Option, Some, None, ◌≤◌, ◌≡◌, Bool, cond, List, length, get_or}
use Rattle.meaning.specs.Syntax.{Module}
use Rattle.meaning.specs.Layout.{file_numbers}
use Rattle.meaning.specs.Boxlist.{member, Found, box, F}
use Rattle.check_lists.specs.Filed.{At, Filed}

-- The numbers of a file.
pub record Whole (numbers : List ℕ) : Type 0 where
  pub ms : List Module
  pub is : numbers ≡ file_numbers ms
  pub few : length ms ≤ 128

-- Its modules, by where they stand.
pub record Placed (numbers starts : List ℕ) (modules : ℕ) : Type 0 where
  pub ms : List Module
  pub filed : Filed numbers starts ms
  pub counted : modules ≡ length ms

-- The position of a module, as it was searched for.
pub data Finds (ms : List Module) : Found → Option ℕ → Type 0 where
  none : Finds ms F None
  some : {r : ℕ} {m : Module} {later : List Module} → At ms r m later → Finds ms (box m) (Some r)

-- A table of marks, 1 for the nets that are known.
abbrev pub mark : Bool → ℕ
mark b = cond b 1 0

pub record Marked (marks known : List ℕ) : Type 0 where
  pub is : (x : ℕ) → get_or marks x 0 ≡ mark (member x known)
