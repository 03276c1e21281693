-- What checking and measuring the modules of a file asks and answers.
use Rattle.std.specs.Prelude.{ℕ, Ok, Err, ◌≤◌, ◌≡◌, List, length, get_or}
use Rattle.meaning.specs.Syntax.{Module}
use Rattle.meaning.specs.Layout.{file_numbers}
use Rattle.meaning.specs.Limits.{net_count}
use Rattle.meaning.specs.Verdict.{good, refused, file_verdict}
use Rattle.nets.specs.Slots.{Below}
use Rattle.image.specs.Resolved.{resolve}
use Rattle.check_sizes.specs.Measured.{Tabled}
use Rattle.check_lists.specs.Filed.{At}
use Rattle.check_lists.specs.Numbering.{Naming}
use Rattle.check_lists.specs.Scene.{Indexes, Figured}
use Rattle.check_steps.specs.Found.{Found, Laidout, EachReady}

-- Every module's count of nets.
pub record NetCounts (ms : List Module) (nets : List ℕ) : Type 0 where
  pub count : (k : ℕ) (m : Module) (later : List Module) → At ms k m later → get_or nets k 0 ≡ net_count m

-- An accepted file: its image, and the figures of each module.
pub record CheckedImage (ms : List Module) (numbers' nets' sizes' rooms' : List ℕ) : Type 0 where
  pub accepted : file_verdict ms ≡ good
  pub image : numbers' ≡ file_numbers (resolve ms)
  pub counted : NetCounts ms nets'
  pub tabled : Tabled 0 ms sizes' rooms'

abbrev pub FoundIs : Found → (ms : List Module) → (numbers' nets' sizes' rooms' : List ℕ) → Type 0
FoundIs (Ok fine) ms numbers' nets' sizes' rooms' = CheckedImage ms numbers' nets' sizes' rooms'
FoundIs (Err r) ms numbers' nets' sizes' rooms' = file_verdict ms ≡ refused r.number r.place

pub record EachFound
    (numbers starts : List ℕ) (modules : ℕ) (found : Found) (first inputs outputs slots nets sizes rooms numbers' nets' sizes' rooms' : List ℕ)
    (r : Found) : Type 0 where
  pub finds :
      (e : EachReady numbers starts modules found first inputs outputs slots nets sizes rooms)
      → FoundIs r e.ms numbers' nets' sizes' rooms'

-- The whole: no module is entered in the table of numbers yet, and the entries of the others are low.
pub record FileReady (numbers starts : List ℕ) (modules : ℕ) (first slots names nets sizes rooms : List ℕ) : Type 0 where
  pub ms : List Module
  pub laidout : Laidout numbers starts modules ms
  pub indexes : Indexes first slots numbers
  pub short : length numbers ≤ 65535
  pub names_long : modules ≤ length names
  pub nets_long : modules ≤ length nets
  pub figured : Figured ms sizes rooms
  pub clear_first : (x : ℕ) → get_or first x 0 ≡ 0
  pub low_slots : Below 65536 slots
  pub low_rooms : Below 65536 rooms

-- The modules' numbers are kept, whatever was found.
pub record FileFound (r : Found) (ms : List Module) (numbers' names' nets' sizes' rooms' : List ℕ) : Type 0 where
  pub outcome : FoundIs r ms numbers' nets' sizes' rooms'
  pub named : Naming names' ms
