-- What is answered of what a file holds.
use Rattle.std.specs.Prelude.{ℕ, ◌≡◌, Result, Ok, Err, List}
use Rattle.std.proofs.Common.{sym, ◌∙◌}
use Rattle.meaning.specs.Calls.{Decision, refusal, answer, module_count, number_at}
use Rattle.refusals.specs.Refused.{refusal_at}
use Rattle.refusals.specs.declared.Refusal.{Refusal}

-- Document 01's number and place, or what was asked for: how many modules there are, or the number of one.
abbrev pub found_of : Decision ℕ → Result ℕ Refusal
found_of (refusal number place) = Err (refusal_at number place)
found_of (answer found) = Ok found

-- Each contract is an equation, so any two outcomes that it permits coincide.
pub one-count : (file : List ℕ) {result result' : Result ℕ Refusal} → result ≡ found_of (module_count file) → result' ≡ found_of (module_count file) → result ≡ result'
one-count file one other = one ∙ sym other

pub one_number :
    (file : List ℕ) (position : ℕ) {result result' : Result ℕ Refusal}
    → result ≡ found_of (number_at file position)
    → result' ≡ found_of (number_at file position)
    → result ≡ result'
one_number file position one other = one ∙ sym other
