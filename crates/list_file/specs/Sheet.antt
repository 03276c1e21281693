-- What listing a file asks, and that its outcome is one.
use Rattle.std.specs.Prelude.{ℕ, ◌*◌, ◌≤◌, ◌≡◌, List, length}
use Rattle.std.proofs.Common.{sym, ◌∙◌}
use Rattle.meaning.specs.Reading.{most_modules}
use Rattle.meaning.specs.Listing.{listing_scratch}
use Rattle.open_file.specs.Prepared.{Opened}
use Rattle.list_text.specs.Pieces.{PutDown}
use Rattle.list_text.specs.Lines.{longest_line}

-- A line for each of the most modules that a file has.
abbrev pub longest_listing : ℕ
longest_listing = longest_line * most_modules

-- The lists hold an accepted file of so many modules, there is a load for each number of the image, the scratch is that of the listing,
-- and there is room for every line.
pub record Listable (image starts names nets sizes rooms : List ℕ) (modules : ℕ) (loads scratch out : List ℕ) : Type 0 where
  pub file : List ℕ
  pub opened : Opened file modules image starts names nets sizes rooms
  pub loads_long : length image ≤ length loads
  pub lent : length scratch ≡ listing_scratch
  pub room : longest_listing ≤ length out

-- Any two outcomes that the contract permits coincide.
pub one-outcome :
    {text out out' out'' : List ℕ} {r r' : ℕ} → PutDown text out 0 out' r → PutDown text out 0 out'' r'
    → (out' ≡ out'') × (r ≡ r')
one-outcome one other = (one.put ∙ sym other.put, one.next ∙ sym other.next)
