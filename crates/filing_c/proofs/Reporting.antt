-- From the answers of filing to the numbers that a C caller gets.
use Prim.Native.Nat.{ℕ}
use mathlib.Core.Path.{◌≡◌, refl}
use mathlib.Core.List.{List}
use Rattle.meaning.specs.Calls.{Decision, refusal, answer, number_of, place_of}
use Rattle.meaning.specs.Filing.{Filed, table_after}
use Rattle.filing.specs.Placing.{placed_of, sorted_of, Sorts}
use Rattle.std.proofs.Common.{Result, Ok, Err, ap}
use Rattle.refusals.specs.Refused.{refusal_at}
use Rattle.refusals.specs.declared.Refusal.{Refusal}
use Rattle.filing_c.specs.Results.{shelf_after, words_after}

abbrev Told : Decision ℕ → (before number shelf place : ℕ) → Type 0
Told d before number shelf place = (number ≡ number_of d) × ((shelf ≡ shelf_after d before) × (place ≡ place_of d))

pub placed-answers :
    (d : Decision ℕ) (before : ℕ) {result : Result ℕ Refusal} {shelf : ℕ} → result ≡ Ok shelf → result ≡ placed_of d → Told d before 0 shelf 0
placed-answers (refusal number place) before e is = (cc, (cc, cc))
placed-answers (answer s) before e is = (cc, (cc, cc))

pub placed-refuses :
    (d : Decision ℕ) (before : ℕ) {result : Result ℕ Refusal} {r : Refusal} → result ≡ Err r → result ≡ placed_of d
    → Told d before r.number before r.place
placed-refuses (refusal number place) before {r = r} e is =
    let same : r ≡ refusal_at number place = cc in
    (ap (λ (q : Refusal). q.number) same, (refl, ap (λ (q : Refusal). q.place) same))
placed-refuses (answer s) before e is = (cc, (cc, cc))

abbrev Sorting : Decision Filed → (before after : List ℕ) (words number told place : ℕ) → Type 0
Sorting d before after words number told place =
    (number ≡ number_of d) × ((after ≡ table_after d before) × ((told ≡ words_after d words) × (place ≡ place_of d)))

told-words : (d : Decision Filed) (words : ℕ) {result : Result ℕ Refusal} {count : ℕ} → result ≡ Ok count → result ≡ sorted_of d
    → (0 ≡ number_of d) × ((count ≡ words_after d words) × (0 ≡ place_of d))
told-words (refusal number place) words e is = (cc, (cc, cc))
told-words (answer f) words e is = (cc, (cc, cc))

told-refusal : (d : Decision Filed) (words : ℕ) {result : Result ℕ Refusal} {r : Refusal} → result ≡ Err r → result ≡ sorted_of d
    → (r.number ≡ number_of d) × ((words ≡ words_after d words) × (r.place ≡ place_of d))
told-refusal (refusal number place) words {r = r} e is =
    let same : r ≡ refusal_at number place = cc in
    (ap (λ (q : Refusal). q.number) same, (refl, ap (λ (q : Refusal). q.place) same))
told-refusal (answer f) words e is = (cc, (cc, cc))

pub sorted_answers :
    {d : Decision Filed} {before after : List ℕ} (words : ℕ) {result : Result ℕ Refusal} {count : ℕ}
    → result ≡ Ok count → Sorts d before after result → Sorting d before after words 0 count 0
sorted_answers {d} words e s = let t = told-words d words e s.is in (t.0, (s.table, t.1))

pub sorted_refuses :
    {d : Decision Filed} {before after : List ℕ} (words : ℕ) {result : Result ℕ Refusal} {r : Refusal}
    → result ≡ Err r → Sorts d before after result → Sorting d before after words r.number words r.place
sorted_refuses {d} words e s = let t = told-refusal d words e s.is in (t.0, (s.table, t.1))
