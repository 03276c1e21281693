-- The whole of a file that is not too long: its modules read, and where each begins noted.
use Prim.Native.Nat.{ℕ, ◌≤◌}
use mathlib.Core.Path.{◌≡◌, refl}
use mathlib.Core.List.{List}
use lib.ListN.{length}
use Rattle.meaning.specs.Reading.{read_count, read_many, read_module, read_modules, most_modules}
use Rattle.std.specs.Prelude.{Result, Err}
use Rattle.refusals.specs.declared.Refusal.{Refusal}
use Rattle.read_parts.specs.Numbers.{at_most, numbers_in, before}
use Rattle.read_parts.specs.Places.{at-start}
use Rattle.read_file.specs.Starts.{behind}
use Rattle.read_parts.specs.Steps.{Stands, Takes, last_of}
use Rattle.read_file.specs.Noted.{Passed, first, Through}
use Rattle.read_parts.specs.Reached.{refused-step}
use Rattle.read_parts.specs.Taken.{takes-ended}
use Rattle.read_parts.specs.Counted.{CountTaken, takes-list}
use Rattle.read_parts.specs.declared.way.Spot.{Spot}

-- Reading begins at the first byte, with nothing laid out.
pub stands-first : {bytes numbers : List ℕ} → length bytes ≤ length numbers → Stands bytes first numbers
unfolding before numbers_in at_most
stands-first {bytes} room = record { front = at-start bytes; count = refl; lies = refl; room = room }

module _ {bytes numbers mid starts offsets : List ℕ} where
  -- The count of modules is refused.
  pub through-refused : {way : Result Spot Refusal} {refusal : Refusal} → way ≡ Err refusal
      → Takes (read_count most_modules) bytes first numbers mid way → Through bytes numbers mid starts starts offsets offsets way
  unfolding read_modules behind
  through-refused e t =
      record {
        took = takes-ended (read_many read_module) e t;
        noted = rw (refused-step e t) (record { in_numbers = refl; in_bytes = refl });
      }

  -- The count of modules is read, and then the modules.
  pub through-modules : {new starts' offsets' : List ℕ} {next : Spot} {way : Result Spot Refusal} {count : ℕ}
      → CountTaken most_modules bytes first numbers next mid
      → count ≡ last_of next mid
      → Passed bytes next count mid new starts starts' offsets offsets' way
      → Through bytes numbers new starts starts' offsets offsets' way
  unfolding read_modules behind
  through-modules c e p =
      record { took = takes-list read_module c e p.took; noted = rw (c.there.step, c.value, ← e) p.noted }
