-- What was read is kept for the file that was made ready.
use Prim.Native.Nat.{ℕ}
use mathlib.Core.Path.{◌≡◌, sym, ap, ◌∙◌}
use mathlib.Core.List.{List}
use Rattle.std.proofs.Common.{length}
use Rattle.meaning.specs.Layout.{file_numbers}
use Rattle.meaning.specs.Ceilings.{Bytes}
use Rattle.read_file.specs.Answer.{Decoded, reading_of}
use Rattle.read_file.specs.Held.{held}
use Rattle.read_file.specs.declared.Extent.{Extent}
use Rattle.refusals.specs.declared.Refusal.{Refusal}
use Rattle.std.specs.Prelude.{Result, Ok, Err}
use Rattle.open_file.specs.Prepared.{Prepares}
use Rattle.open_beside.specs.Beside.{beside_of, PreparesBeside}

module _ {file numbers numbers' starts starts' offsets offsets' : List ℕ} {reading : Result Extent Refusal} (bytes : Bytes file)
    (d : Decoded file numbers numbers' starts starts' offsets offsets' reading) {extent : Extent} (e : reading ≡ Ok extent)
    (image names nets sizes rooms : List ℕ) where
  keeps : (p : Result ℕ Refusal) → Prepares p file image starts' names nets sizes rooms
      → PreparesBeside (beside_of p extent.numbers) file numbers' offsets' image starts' names nets sizes rooms
  keeps (Ok all) o =
      let same = sym e ∙ d.answers ∙ ap reading_of o.reads in
      let extents : extent ≡ record { modules = length o.ms; numbers = length (file_numbers o.ms) } = cc in
      record { opened = o; kept = held bytes d o.reads; many = ap (λ (x : Extent). x.numbers) extents }
  keeps (Err refusal) verdict = verdict

  pub kept-beside : (p : Result ℕ Refusal) {r : Result Extent Refusal} → Prepares p file image starts' names nets sizes rooms → r ≡ beside_of p extent.numbers
      → PreparesBeside r file numbers' offsets' image starts' names nets sizes rooms
  kept-beside p prepares is = rw is (keeps p prepares)
