-- What is answered of a file's verdict.
use Rattle.std.specs.Prelude.{ℕ, ◌≡◌, Result, Ok, Err, List}
use Rattle.std.proofs.Common.{sym, ◌∙◌}
use Rattle.meaning.specs.Verdict.{Verdict, good, refused, verdict}
use Rattle.refusals.specs.Refused.{refusal_at}
use Rattle.refusals.specs.declared.Refusal.{Refusal}

abbrev pub check_of : Verdict → Result Unit Refusal
check_of good = Ok tt
check_of (refused number place) = Err (refusal_at number place)

-- The check's contract is an equation, so any two outcomes that it permits coincide.
pub one-verdict : (file : List ℕ) {result result' : Result Unit Refusal} → result ≡ check_of (verdict file) → result' ≡ check_of (verdict file) → result ≡ result'
one-verdict file one other = one ∙ sym other
