-- The loop over the modules of a file: it reads each and notes where it begins.
use Prim.Native.Nat.{ℕ, ◌+◌, ◌-◌, ◌≤◌, ◌<◌}
use mathlib.Core.Path.{◌≡◌}
use mathlib.Core.List.{List}
use native.Mathlib.Omega.{arith}
use lib.ListN.{length, set}
use Rattle.meaning.specs.Layout.{module_numbers}
use Rattle.meaning.specs.Reading.{read_module}
use Rattle.std.specs.Prelude.{Result, Ok, Err}
use Rattle.refusals.specs.declared.Refusal.{Refusal}
use Rattle.read_parts.specs.Steps.{Stands, Takes}
use Rattle.read_file.specs.Noted.{Fit, places_from, Passed}
use Rattle.read_parts.specs.Reached.{Reached, refused-step}
use Rattle.read_parts.specs.Turns.{Turning, turn-first, turn-next, turn-refused, turn_last}
use Rattle.read_file.proofs.Noting.{Noting, noting-first, noting-next, noting-refused, noting-last, noting_starts, noting_offsets}
use Rattle.read_parts.specs.declared.way.Spot.{Spot}

-- Of so many, i are.
pub record Passing
    (bytes : List ℕ) (start : Spot) (count i : ℕ) (numbers numbers' starts starts' offsets offsets' : List ℕ) (spot : Spot)
    : Type 0 where
  pub left : ℕ
  pub sum : i + left ≡ count
  pub turning : Turning read_module bytes start count numbers left spot numbers'
  pub noting : Noting bytes (places_from bytes count start) left spot i starts starts' offsets offsets'

pub passing-first : {bytes numbers starts offsets : List ℕ} {count : ℕ} {spot : Spot} → Stands bytes spot numbers
    → Passing bytes spot count 0 numbers numbers starts starts offsets offsets spot
passing-first {count} stands = record { left = count; sum = omega arith; turning = turn-first stands; noting = noting-first }

module _ {bytes numbers numbers' starts starts' offsets offsets' : List ℕ} {start spot : Spot} {count i : ℕ}
    (t : Passing bytes start count i numbers numbers' starts starts' offsets offsets' spot) where
  pub passing-last : count ≤ i → Passed bytes start count numbers numbers' starts starts' offsets offsets' (Ok spot)
  passing-last h =
      let none : t.left ≤ 0 = omega (arith, t.sum) in
      record { took = turn_last t.turning none; noted = noting-last t.noting none }

  -- The lists stay as long as they are, and the next place has room in them.
  module _ (fit : Fit count starts offsets) where
    pub passing_starts : length starts' ≡ length starts
    passing_starts = noting_starts t.noting (omega (arith, t.sum, fit.in_numbers))

    pub passing_offsets : length offsets' ≡ length offsets
    passing_offsets = noting_offsets t.noting (omega (arith, t.sum, fit.in_bytes))

    module _ (h : i < count) where
      more : 0 < t.left
      more = omega (arith, t.sum)

      pub fits_starts : i < length starts'
      fits_starts = let l = passing_starts in omega (arith, fit.in_numbers)

      pub fits_offsets : i < length offsets'
      fits_offsets = let l = passing_offsets in omega (arith, fit.in_bytes)

      pub passing-refused : {new : List ℕ} {way : Result Spot Refusal} {refusal : Refusal} → way ≡ Err refusal
          → Takes read_module bytes spot numbers' new way
          → Passed bytes start count numbers new starts (set starts' i spot.filled) offsets (set offsets' i spot.place) way
      passing-refused e u =
          record {
            took = turn-refused t.turning more e u;
            noted = noting-refused t.noting t.turning.stands.count more fits_starts fits_offsets (refused-step e u);
          }

      pub passing-next : {new : List ℕ} {next : Spot} → Reached module_numbers read_module bytes spot numbers' next new
          → Passing bytes start count (i + 1) numbers new starts (set starts' i spot.filled) offsets (set offsets' i spot.place)
          next
      passing-next w =
          record {
            left = t.left - 1;
            sum = omega (arith, t.sum);
            turning = turn-next t.turning more w;
            noting = noting-next t.noting t.turning.stands.count more fits_starts fits_offsets w;
          }
