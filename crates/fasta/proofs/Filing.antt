-- A record that is filed: what `filing` answers, taken into the sums.
use Rattle.std.proofs.Common.{◌≡◌, ℕ, suc, ◌+◌, ◌≤◌, List, map, length, take, sym, ap, ◌∙◌, subst, ap₂, arith}
use Rattle.meaning.specs.Calls.{Decision, refusal, answer}
use Rattle.meaning.specs.Filing.{Filed, filing_sequence}
use Rattle.filing.specs.Placing.{Sorts}
use Rattle.std.proofs.Common.{Result, Ok, Err}
use Rattle.refusals.specs.Refused.{refusal_at}
use Rattle.refusals.specs.declared.Refusal.{Refusal}
use Rattle.fasta.specs.Sums.{Total, counted, refused, Sums, add_tables, filed_as, filed_behind, after_record}
use Rattle.fasta.specs.Steps.{State, ended, low, tally_of, Front, Kept}
use Rattle.fasta.specs.declared.records.Tally.{Tally}
use Rattle.fasta.specs.declared.records.Refused.{Refused}
use Rattle.fasta.proofs.Summing.{low-add}
use Rattle.fasta.proofs.Filling.{front-enough}

abbrev as_counted : (records words : ℕ) → Result Tally Refused
as_counted records words = Ok (record { records = records; words = words })

abbrev as_refused : Refusal → (before : ℕ) → Result Tally Refused
as_refused r before = Err (record { refusal = r; before = before })

module _ {records words : ℕ} {table : List ℕ} (before held : ℕ) (sums : List ℕ) (records-are : records ≡ low before) (words_are : words ≡ low held) (table_is : table ≡ map low sums) where
  -- Its words are counted,
  pub filed-words :
      (d : Decision Filed) {counts counts' table' : List ℕ} {result : Result ℕ Refusal} {more wide one all : ℕ}
      → Sorts d counts counts' result → result ≡ Ok more
      → ((sums : List ℕ) → table ≡ map low sums → table' ≡ map low (add_tables sums counts'))
      → one ≡ low (records + 1) → wide ≡ more → all ≡ low (words + wide)
      → Kept (filed_as before held sums d) table' (Ok (record { records = one; words = all }))
  filed-words (refusal number place) s e put one-is wide_is all_are = let z : ◌≡◌ {A = ℕ} 0 1 = cc s.is in absurd (omega arith)
  filed-words (answer f) s e put one-is wide_is all_are =
      let more-is = wide_is ∙ words_of e s.is in
      record {
        told =
            ap₂ as_counted
            (one-is ∙ ap (λ (k : ℕ). low (k + 1)) records-are ∙ low-add before 1 ∙ ap low (next before))
            (all_are ∙ ap₂ (λ (k m : ℕ). low (k + m)) words_are more-is ∙ low-add held f.words);
        summed = put sums table_is ∙ ap (λ (c : List ℕ). map low (add_tables sums c)) s.table;
      }
    where
      next : (k : ℕ) → k + 1 ≡ suc k
      next k = omega arith

      words_of : {result : Result ℕ Refusal} {m k : ℕ} → result ≡ Ok m → result ≡ Ok k → m ≡ k
      words_of e g = cc

  -- or it is refused.
  pub filed-refused :
      (d : Decision Filed) {counts counts' : List ℕ} {result : Result ℕ Refusal} {r : Refusal}
      → Sorts d counts counts' result → result ≡ Err r
      → Kept (filed_as before held sums d) table (Err (record { refusal = r; before = records }))
  filed-refused (refusal number place) {r = r} s e =
      let same : r ≡ refusal_at number place = cc s.is in
      record {
        told = ap₂ as_refused same records-are;
        summed = table_is;
      }
  filed-refused (answer f) s e = let z : ◌≡◌ {A = ℕ} 0 1 = cc s.is in absurd (omega arith)

-- Behind records that were counted a record is filed, behind a refusal nothing changes.
module _ {table : List ℕ} {r : Result Tally Refused} (n : ℕ) (bases : List ℕ) where
  behind-counted :
      (t : Total) (sums : List ℕ) {tally : Tally} {table' : List ℕ} {r' : Result Tally Refused} → r ≡ tally_of t → table ≡ map low sums → r ≡ Ok tally
      → ((before held : ℕ) (sums : List ℕ) → tally.records ≡ low before → tally.words ≡ low held → table ≡ map low sums
      → Kept (filed_as before held sums (filing_sequence bases n 33)) table' r')
      → Kept (filed_behind n bases t sums) table' r'
  behind-counted (counted before held) sums {tally} is table_is e file =
      let same : ◌≡◌ {A = Tally} tally (record { records = low before; words = low held }) = cc in
      file before held sums (ap (λ (t : Tally). t.records) same) (ap (λ (t : Tally). t.words) same) table_is
  behind-counted (refused number place before') sums is table_is e file = let z : ◌≡◌ {A = ℕ} 0 1 = cc in absurd (omega arith)

  pub after-counted :
      (s : Sums) {tally : Tally} {table' : List ℕ} {r' : Result Tally Refused} → Kept s table r → r ≡ Ok tally
      → ((before held : ℕ) (sums : List ℕ) → tally.records ≡ low before → tally.words ≡ low held → table ≡ map low sums
      → Kept (filed_as before held sums (filing_sequence bases n 33)) table' r')
      → Kept (after_record n bases s) table' r'
  unfolding after_record
  after-counted s k e file = behind-counted s.total s.table k.told k.summed e file

  behind-refused :
      (t : Total) (sums : List ℕ) {stop : Refused} → r ≡ tally_of t → table ≡ map low sums → r ≡ Err stop
      → Kept (filed_behind n bases t sums) table (Err stop)
  behind-refused (counted before held) sums is table_is e = let z : ◌≡◌ {A = ℕ} 0 1 = cc in absurd (omega arith)
  behind-refused (refused number place before') sums is table_is e = record { told = sym e ∙ is; summed = table_is }

  pub after-refused : (s : Sums) {stop : Refused} → Kept s table r → r ≡ Err stop → Kept (after_record n bases s) table (Err stop)
  unfolding after_record
  after-refused s k e = behind-refused s.total s.table k.told k.summed e

-- So much of a record as stands at the front of a buffer comes to what the record comes to.
pub closed-front :
    (n : ℕ) {filled : ℕ} {buffer table' : List ℕ} {r : Result Tally Refused} (s : State) → Front s.bases buffer filled → 65536 ≤ length buffer
    → Kept (after_record n (take filled buffer) s.sums) table' r → Kept (ended n s) table' r
closed-front n {filled} {buffer} {table'} {r} s f roomy k =
    subst (λ (sums : Sums). Kept sums table' r)
    (ap (λ (l : List ℕ). after_record n l s.sums) f.stands ∙ front-enough n (length buffer) s.bases s.sums roomy) k
