-- What filing answers, and what it leaves in the table that is lent to it.
use Rattle.std.specs.Prelude.{ℕ, ◌≡◌, List, Result, Ok, Err}
use Rattle.std.proofs.Common.{sym, ◌∙◌}
use Rattle.meaning.specs.Calls.{Decision, refusal, answer}
use Rattle.meaning.specs.Filing.{Filed, filing_word, table_after}
use Rattle.refusals.specs.Refused.{refusal_at}
use Rattle.refusals.specs.declared.Refusal.{Refusal}

-- The number and place of a refusal, or what was asked for.
abbrev pub placed_of : Decision ℕ → Result ℕ Refusal
placed_of (refusal number place) = Err (refusal_at number place)
placed_of (answer shelf) = Ok shelf

abbrev pub sorted_of : Decision Filed → Result ℕ Refusal
sorted_of (refusal number place) = Err (refusal_at number place)
sorted_of (answer filed) = Ok filed.words

-- What a sequence comes to is answered, and the table is as it says.
pub record Sorts (decision : Decision Filed) (before after : List ℕ) (result : Result ℕ Refusal) : Type 0 where
  pub is : result ≡ sorted_of decision
  pub table : after ≡ table_after decision before

-- Any two outcomes that these permit coincide.
pub one-shelf :
    (word : List ℕ) {result result' : Result ℕ Refusal}
    → result ≡ placed_of (filing_word word)
    → result' ≡ placed_of (filing_word word)
    → result ≡ result'
one-shelf word one other = one ∙ sym other

pub one_table :
    {decision : Decision Filed} {before after after' : List ℕ} {result result' : Result ℕ Refusal}
    → Sorts decision before after result
    → Sorts decision before after' result'
    → (result ≡ result') × (after ≡ after')
one_table one other = (one.is ∙ sym other.is, one.table ∙ sym other.table)
