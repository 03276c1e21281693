-- The answer to a whole file, from the way that reading its modules has gone.
use Prim.Native.Nat.{ℕ, ◌≤◌, ◌<◌}
use mathlib.Core.Path.{◌≡◌, ap, ◌∙◌}
use mathlib.Core.List.{List}
use native.Mathlib.Omega.{arith}
use borrow.Author.Tests.{le-leb, lt-leb}
use lib.ListN.{length, get_or, drop_of_length-le}
use lib.Seq.{drop-cons}
use Rattle.meaning.specs.Layout.{file_numbers}
use Rattle.meaning.specs.Reading.{holds, fails, at_end, read, read_modules, most_bytes}
use Rattle.std.specs.Prelude.{Result, Ok, Err}
use Rattle.refusals.specs.Refused.{refusal_at}
use Rattle.refusals.specs.declared.Refusal.{Refusal}
use Rattle.read_parts.specs.Numbers.{at_most, numbers_in, before, laid}
use Rattle.read_parts.specs.Places.{before-length}
use Rattle.read_parts.specs.Sound.{sound-modules}
use Rattle.read_parts.specs.Steps.{way_place}
use Rattle.read_file.specs.Noted.{first, Through}
use Rattle.read_file.specs.Answer.{reading_of, end_of, numbers_of, offsets_of, starts_of, Decoded}
use Rattle.read_parts.specs.Reached.{Reached, reached, refused-step}
use Rattle.read_file.proofs.Through.{stands-first}
use Rattle.read_parts.specs.declared.way.Spot.{Spot}
use Rattle.read_file.specs.declared.Extent.{Extent}

-- Too long a file is refused, and nothing is done.
pub decoded-long : {bytes numbers starts offsets : List ℕ} → most_bytes < length bytes
    → Decoded bytes numbers numbers starts starts offsets offsets (Err (refusal_at 1 0))
unfolding read numbers_of offsets_of starts_of before numbers_in at_most
decoded-long {bytes} long =
    let t = lt-leb (length bytes) most_bytes long in
    record { answers = rw t; numbers_laid = rw t; starts_laid = rw t; offsets_laid = rw t }

read_short : (bytes : List ℕ) → length bytes ≤ most_bytes → read bytes ≡ at_end (read_modules 0 bytes)
unfolding read
read_short bytes short = rw (le-leb (length bytes) most_bytes short)

-- No number stands in front of the first.
from_first : {bytes old new : List ℕ} {spot : Spot} (w : Reached file_numbers read_modules bytes first old spot new)
    → before bytes spot.place ≡ file_numbers w.thing
unfolding before numbers_in at_most
from_first w = w.numbers

module _ {bytes numbers numbers' starts starts' offsets offsets' : List ℕ} {way : Result Spot Refusal}
    (short : length bytes ≤ most_bytes) (t : Through bytes numbers numbers' starts starts' offsets offsets' way) where
  -- Where reading ends is where the way has led.
  decoded : {reading : Result Extent Refusal} → reading ≡ reading_of (read bytes) → way_place way ≡ end_of bytes (read bytes)
      → Decoded bytes numbers numbers' starts starts' offsets offsets' reading
  unfolding numbers_of offsets_of starts_of
  decoded answers ends =
      let e = le-leb (length bytes) most_bytes short in
      record {
        answers = answers;
        numbers_laid = t.took.lays.all ∙ ap (λ (p : ℕ). laid (before bytes p) numbers) ends;
        starts_laid = rw e t.noted.in_numbers;
        offsets_laid = rw e t.noted.in_bytes;
      }

  pub decoded-refused : {refusal : Refusal} → way ≡ Err refusal
      → Decoded bytes numbers numbers' starts starts' offsets offsets' (Err refusal)
  decoded-refused {refusal} e =
      let file : read bytes ≡ fails refusal.number refusal.place = read_short bytes short ∙ rw (refused-step e t.took) in
      decoded (rw file) (rw file (ap way_place e))

  -- The modules are read, and reading stands at `spot`.
  module _ (room : length bytes ≤ length numbers) {spot : Spot} (e : way ≡ Ok spot) where
    modules : Reached file_numbers read_modules bytes first numbers spot numbers'
    modules = reached sound-modules (stands-first room) e t.took

    -- Bytes follow the last module.
    pub decoded-more : spot.place < length bytes
        → Decoded bytes numbers numbers' starts starts' offsets offsets' (Err (refusal_at 5 spot.place))
    decoded-more h =
        let file : read bytes ≡ fails 5 spot.place =
        read_short bytes short ∙ rw (modules.step, drop-cons bytes spot.place 0 h)
        in
        decoded (rw file) (rw file (ap way_place e))

    -- None do.
    pub decoded-all : length bytes ≤ spot.place
        → Decoded bytes numbers numbers' starts starts' offsets offsets' (Ok (record { modules = get_or numbers' 0 0; numbers = spot.filled }))
    unfolding file_numbers
    decoded-all h = at modules
      where
        at : Reached file_numbers read_modules bytes first numbers spot numbers'
            → Decoded bytes numbers numbers' starts starts' offsets offsets' (Ok (record { modules = get_or numbers' 0 0; numbers = spot.filled }))
        at w =
            let file : read bytes ≡ holds w.thing = read_short bytes short ∙ rw (w.step, drop_of_length-le bytes h) in
            let count : get_or numbers' 0 0 ≡ length w.thing = rw (w.lays.all, from_first w) in
            let end : spot.place ≡ length bytes = omega (arith, w.stands.front.within) in
            decoded (rw (file, count, w.stands.count, from_first w)) (rw file (ap way_place e ∙ end))

    -- There is a number, and room for it.
    pub some_number : 0 < length numbers'
    unfolding file_numbers
    some_number =
        let some = ap length (from_first modules) in
        let few = before-length bytes spot.place in
        omega (arith, modules.stands.room)
