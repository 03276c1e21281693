-- What the records of a file come to: each is a sequence of its own and is filed by itself, and the counts of all are added. The first record
-- that is refused refuses the file.
use Rattle.std.specs.Prelude.{ℕ, suc, ◌+◌, List, [], ◌∷◌, replicate}
use Rattle.meaning.specs.Calls.{Decision, refusal, answer}
use Rattle.meaning.specs.Filing.{Filed, shelf_count, filing_sequence}
use Rattle.fasta.specs.Records.{records_of}

-- So many records with so many words; or a refusal, with how many records stand before the one that is refused.
pub data Total : Type 0 where
  counted : (records words : ℕ) → Total
  refused : (number place before : ℕ) → Total

-- With the sums of the counts of the records that were not refused.
pub record Sums : Type 0 where
  pub total : Total
  pub table : List ℕ

unfoldable pub add_tables : List ℕ → List ℕ → List ℕ
add_tables [] ys = []
add_tables (x ∷ xs) [] = x ∷ xs
add_tables (x ∷ xs) (y ∷ ys) = (x + y) ∷ add_tables xs ys

-- A record behind so many others, of so many words.
abbrev pub filed_as : (records words : ℕ) (table : List ℕ) → Decision Filed → Sums
filed_as records words table (refusal number place) = record { total = refused number place records; table = table }
filed_as records words table (answer filed) =
    record { total = counted (suc records) (words + filed.words); table = add_tables table filed.table }

abbrev pub filed_behind : (length : ℕ) (bases : List ℕ) → Total → (table : List ℕ) → Sums
filed_behind n bases (counted records words) table = filed_as records words table (filing_sequence bases n shelf_count)
filed_behind n bases (refused number place before) table = record { total = refused number place before; table = table }

unfoldable pub after_record : (length : ℕ) (bases : List ℕ) → Sums → Sums
after_record n bases s = filed_behind n bases s.total s.table

unfoldable pub after_records : (length : ℕ) (records : List (List ℕ)) → Sums → Sums
after_records n [] s = s
after_records n (bases ∷ records) s = after_records n records (after_record n bases s)

abbrev pub no_records : Sums
no_records = record { total = counted 0 0; table = replicate shelf_count 0 }

-- Words of a length in a file.
unfoldable pub file_sums : (length : ℕ) (file : List ℕ) → Sums
file_sums n file = after_records n (records_of file) no_records
