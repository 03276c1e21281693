-- What working out the loads of a module's nets asks and answers. Each net has its slot in the module's frame, the first entries of
-- scratch; the modules referred to work behind the frame. Each module is worked out once: its largest load and the loads of its inputs
-- and outputs are kept.
use Rattle.std.specs.Prelude.{ℕ, ◌+◌, ◌*◌, ◌≤◌, ◌<◌, ◌≡◌, List, ◌∷◌, length, get_or, take, drop}
use Rattle.meaning.specs.Syntax.{Module}
use Rattle.meaning.specs.Layout.{module_numbers}
use Rattle.meaning.specs.Limits.{most_size}
use Rattle.meaning.specs.Figures.{room}
use Rattle.meaning.specs.Loads.{loads_inside, largest_load}
use Rattle.image.specs.Scenes.{Scene}

-- The numbers of each module end in the image before those of a later one begin.
pub record Ordered (starts : List ℕ) (rs : List Module) : Type 0 where
  pub ends :
      (j k : ℕ) {m : Module} {later : List Module}
      → drop j rs ≡ m ∷ later
      → j < k
      → k < length rs
      → get_or starts j 0 + length (module_numbers m) ≤ get_or starts k 0

-- The module at position k of a file that stands in the image has room in so many entries of scratch, and its loads are within what the
-- expanded size allows.
pub record Loadable (image starts nets : List ℕ) (k entries : ℕ) : Type 0 where
  pub rs : List Module
  pub scene : Scene image starts nets rs k
  pub ordered : Ordered starts rs
  pub room : room rs (16 + k) ≤ entries
  pub loads : largest_load rs (16 + k) ≤ 4 * most_size

-- The loads of the inputs and outputs of the module at position k stand in a list where these stand in the image.
pub record LoadsThere (starts : List ℕ) (rs : List Module) (k : ℕ) (m : Module) (loads : List ℕ) : Type 0 where
  pub inputs : take (length m.inputs) (drop (get_or starts k 0 + 2) loads) ≡ (loads_inside rs (16 + k)).inputs
  pub outputs : take (length m.outputs) (drop (get_or starts k 0 + 3 + length m.inputs) loads) ≡ (loads_inside rs (16 + k)).outputs

-- What is kept: of each module that is marked, its largest load plus 1 and the loads of its inputs and outputs.
pub record LoadsKept (image starts : List ℕ) (rs : List Module) (loads known : List ℕ) : Type 0 where
  pub long : length image ≤ length loads
  pub largest :
      (j : ℕ) {m : Module} {later : List Module}
      → drop j rs ≡ m ∷ later
      → 0 < get_or known j 0
      → get_or known j 0 ≡ largest_load rs (16 + j) + 1
  pub there :
      (j : ℕ) {m : Module} {later : List Module}
      → drop j rs ≡ m ∷ later
      → 0 < get_or known j 0
      → LoadsThere starts rs j m loads

-- The loads of the module at position k can be worked out, and what is kept is of the same file.
pub record Workable (image starts nets : List ℕ) (k entries : ℕ) (loads known : List ℕ) : Type 0 where
  pub loadable : Loadable image starts nets k entries
  pub kept : LoadsKept image starts loadable.rs loads known

-- The largest of its loads and of those inside is known, the loads of its inputs and outputs are there, and nothing behind its room has
-- changed.
pub record Loaded
    (image starts : List ℕ) (rs : List Module) (m : Module) (k most : ℕ) (scratch scratch' loads known : List ℕ) : Type 0 where
  pub largest : most ≡ largest_load rs (16 + k)
  pub there : LoadsThere starts rs k m loads
  pub kept : LoadsKept image starts rs loads known
  pub behind : drop (room rs (16 + k)) scratch' ≡ drop (room rs (16 + k)) scratch
