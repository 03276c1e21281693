-- How far the check of a file's modules has come: what is known where those from position k on are done. The numbers in front of them are
-- still the file's, and where nothing was found the rest of the image stands behind.
use Rattle.std.specs.Prelude.{ℕ, Ok, ◌+◌, ◌-◌, ◌*◌, ◌≤◌, ◌<◌, ◌≡◌, cond, List, ◌∷◌, ◌++◌, ltb, length, get_or, take, drop}
use Rattle.meaning.specs.Syntax.{Module}
use Rattle.meaning.specs.Layout.{each, module_numbers}
use Rattle.meaning.specs.Limits.{net_count}
use Rattle.nets.specs.Slots.{Below}
use Rattle.image.specs.Resolved.{resolve}
use Rattle.image.specs.ResolvedLayout.{start_of}
use Rattle.image.specs.Fitting.{Fits}
use Rattle.check_sizes.specs.Measured.{Tabled}
use Rattle.check_lists.specs.Filed.{At}
use Rattle.check_steps.specs.Found.{Found, EachReady, Judges}

-- The count of modules, and the numbers of those in front of position k.
unfoldable pub front : List Module → ℕ → List ℕ
front ms k = length ms ∷ each module_numbers (take k ms)

-- The modules from k on are done, and nothing was found.
pub record Done (ms : List Module) (k : ℕ) (tail nets sizes rooms : List ℕ) : Type 0 where
  pub image : tail ≡ each module_numbers (drop k (resolve ms))
  pub counted : (j : ℕ) (m : Module) (later : List Module) → k ≤ j → At ms j m later → get_or nets j 0 ≡ net_count m
  pub tabled : Fits ms → Tabled k ms sizes rooms

pub record Going (ms : List Module) (k end : ℕ) (found : Found) (numbers nets sizes rooms : List ℕ) : Type 0 where
  pub tail : List ℕ
  pub reached : end ≡ start_of ms k
  pub numbers_are : numbers ≡ front ms k ++ tail
  pub judged : Judges found k ms
  pub done : found ≡ Ok tt → Done ms k tail nets sizes rooms

-- The tables where the modules in front of position k are left: as long as they were, and no entry too high. The base grows with each
-- that is done by as many slots as a module's nets can have.
pub record Bounded (modules : ℕ) (numbers₀ slots₀ nets₀ sizes₀ rooms₀ numbers slots nets sizes rooms : List ℕ) (base k : ℕ) : Type 0 where
  pub inside : k ≤ modules
  pub numbers_kept : length numbers ≡ length numbers₀
  pub slots_kept : length slots ≡ length slots₀
  pub nets_kept : length nets ≡ length nets₀
  pub sizes_kept : length sizes ≡ length sizes₀
  pub rooms_kept : length rooms ≡ length rooms₀
  pub based : base ≡ 65536 * (1 + (modules - k))
  pub earlier : Below base slots
  pub small : Below 65536 sizes
  pub low : Below (65536 * (129 - k)) rooms

-- The check of so many modules has come to position k, for every file that the numbers can be: the modules in front of it end at a place,
-- and the next one has a base of slots.
pub record FileWalk
    (numbers₀ starts : List ℕ) (modules : ℕ) (found₀ : Found) (first inputs outputs slots₀ nets₀ sizes₀ rooms₀ numbers slots nets sizes rooms : List ℕ)
    (found : Found) (end base k : ℕ) : Type 0 where
  pub bounded : Bounded modules numbers₀ slots₀ nets₀ sizes₀ rooms₀ numbers slots nets sizes rooms base k
  pub going :
      (e : EachReady numbers₀ starts modules found₀ first inputs outputs slots₀ nets₀ sizes₀ rooms₀)
      → Going e.ms k end found numbers nets sizes rooms

-- Where the modules in front of position k end: where the one at k starts, or behind the last of so many.
abbrev pub end_before : (starts numbers : List ℕ) (modules k : ℕ) → ℕ
end_before starts numbers modules k = cond (ltb k modules) (get_or starts k 0) (length numbers)

-- The base of slots of the module in front of position k.
abbrev pub base_of : (modules k : ℕ) → ℕ
base_of modules k = 65536 * (1 + (modules - k))

-- The check has come to the position behind k, from lists that were ready for it.
pub record Reached
    (numbers starts : List ℕ) (modules k : ℕ) (found : Found) (first inputs outputs slots nets sizes rooms : List ℕ) : Type 0 where
  pub numbers₀ : List ℕ
  pub found₀ : Found
  pub slots₀ : List ℕ
  pub nets₀ : List ℕ
  pub sizes₀ : List ℕ
  pub rooms₀ : List ℕ
  pub ready : EachReady numbers₀ starts modules found₀ first inputs outputs slots₀ nets₀ sizes₀ rooms₀
  pub inside : k < modules
  pub walk :
      FileWalk numbers₀ starts modules found₀ first inputs outputs slots₀ nets₀ sizes₀ rooms₀ numbers slots nets sizes rooms found
      (end_before starts numbers modules (k + 1)) (base_of modules (k + 1)) (k + 1)

-- From there it has gone on to k.
abbrev pub Gone :
    {numbers starts : List ℕ} {modules k : ℕ} {found : Found} {first inputs outputs slots nets sizes rooms : List ℕ}
    → Reached numbers starts modules k found first inputs outputs slots nets sizes rooms
    → (numbers' slots' nets' sizes' rooms' : List ℕ) → Found → Type 0
Gone {starts = starts} {modules = modules} {k = k} {first = first} {inputs = inputs} {outputs = outputs} b numbers' slots' nets' sizes' rooms' r =
    FileWalk b.numbers₀ starts modules b.found₀ first inputs outputs b.slots₀ b.nets₀ b.sizes₀ b.rooms₀
    numbers' slots' nets' sizes' rooms' r (end_before starts numbers' modules k) (base_of modules k) k
