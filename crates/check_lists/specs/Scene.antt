-- Where the check stands: in the module at position k of a file, with no number repeated up to there.
use Rattle.std.specs.Prelude.{ℕ, ◌<◌, ◌≤◌, ◌≡◌, List, length}
use Rattle.meaning.specs.Syntax.{Module}
use Rattle.meaning.specs.Boxlist.{member}
use Rattle.nets.specs.Slots.{Below}
use Rattle.check_lists.specs.Filed.{At}
use Rattle.check_lists.specs.Numbering.{Numbered, Ported, first_repeat}

pub record Scene (first inputs outputs : List ℕ) (k : ℕ) : Type 0 where
  pub ms : List Module
  pub m : Module
  pub later : List Module
  pub here : At ms k m later
  pub numbered : Numbered first ms
  pub ported : Ported inputs outputs ms
  pub unrepeated : k < first_repeat ms
  pub few : length ms ≤ 128

-- Numbers of the file are indices of the tables.
pub record Indexes (first slots xs : List ℕ) : Type 0 where
  pub in_first : Below (length first) xs
  pub in_slots : Below (length slots) xs

-- The tables of figures have an entry for each module, and no size is over the limit.
pub record Figured (ms : List Module) (sizes rooms : List ℕ) : Type 0 where
  pub sizes_long : length ms ≤ length sizes
  pub rooms_long : length ms ≤ length rooms
  pub small : Below 65536 sizes

-- Two lists have the same nets.
pub record Same (nets signals : List ℕ) : Type 0 where
  pub same : (x : ℕ) → member x nets ≡ member x signals
