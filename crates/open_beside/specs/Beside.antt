-- A file made ready for calls, whose own numbers and places are kept beside its image.
use Rattle.std.specs.Prelude.{ℕ, ◌≤◌, min, ◌≡◌, List, length, take, Result, Ok, Err}
use Rattle.std.proofs.Common.{ap, subst, ◌∙◌, arith, length-take}
use Rattle.meaning.specs.Layout.{file_numbers}
use Rattle.meaning.specs.Reading.{most_bytes, most_modules}
use Rattle.meaning.specs.Verdict.{refused, verdict}
use Rattle.read_file.specs.Held.{Held}
use Rattle.open_file.specs.Prepared.{Space, Opened}
use Rattle.read_file.specs.declared.Extent.{Extent}
use Rattle.refusals.specs.declared.Refusal.{Refusal}

-- Space for the work, and lists that are long enough for what is kept.
pub record SpaceBeside (file numbers offsets image starts names nets sizes rooms first slots : List ℕ) : Type 0 where
  pub space : Space file image starts names nets sizes rooms first slots
  pub numbers_long : min (length file) most_bytes ≤ length numbers
  pub offsets_long : most_modules ≤ length offsets

-- An accepted file stands in the lists, and so do its own numbers, so many, and where each of its modules begins in them and in its bytes.
pub record OpenedBeside (file : List ℕ) (modules count : ℕ) (numbers offsets image starts names nets sizes rooms : List ℕ) : Type 0 where
  pub opened : Opened file modules image starts names nets sizes rooms
  pub kept : Held file opened.ms numbers starts offsets
  pub many : count ≡ length (file_numbers opened.ms)

-- What preparing comes to, with the count of numbers.
abbrev pub beside_of : Result ℕ Refusal → (count : ℕ) → Result Extent Refusal
beside_of (Ok modules) count = Ok (record { modules = modules; numbers = count })
beside_of (Err refusal) count = Err refusal

abbrev pub PreparesBeside : Result Extent Refusal → (file numbers offsets image starts names nets sizes rooms : List ℕ) → Type 0
PreparesBeside (Ok extent) file numbers offsets image starts names nets sizes rooms =
    OpenedBeside file extent.modules extent.numbers numbers offsets image starts names nets sizes rooms
PreparesBeside (Err refusal) file numbers offsets image starts names nets sizes rooms =
    verdict file ≡ refused refusal.number refusal.place

-- The list begins with the file's numbers.
module _ {file : List ℕ} {modules count : ℕ} {numbers offsets image starts names nets sizes rooms : List ℕ}
    (o : OpenedBeside file modules count numbers offsets image starts names nets sizes rooms) where
  pub numbers-are : take count numbers ≡ file_numbers o.opened.ms
  numbers-are = ap (λ (n : ℕ). take n numbers) o.many ∙ o.kept.numbers_are

  pub numbers-inside : count ≤ length numbers
  numbers-inside = omega (arith, ap length numbers-are, o.many, length-take count numbers)

-- What preparing says of its answer.
module _ (file numbers offsets image starts names nets sizes rooms : List ℕ) (r : Result Extent Refusal)
    (p : PreparesBeside r file numbers offsets image starts names nets sizes rooms) where
  pub opened-beside : (extent : Extent) → r ≡ Ok extent → OpenedBeside file extent.modules extent.numbers numbers offsets image starts names nets sizes rooms
  opened-beside extent e = subst (λ (x : Result Extent Refusal). PreparesBeside x file numbers offsets image starts names nets sizes rooms) e p

  pub broken-beside : (refusal : Refusal) → r ≡ Err refusal → verdict file ≡ refused refusal.number refusal.place
  broken-beside refusal e = subst (λ (x : Result Extent Refusal). PreparesBeside x file numbers offsets image starts names nets sizes rooms) e p
