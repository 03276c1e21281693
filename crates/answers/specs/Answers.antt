-- What a call that writes answers, and what it leaves in the buffer that was lent to it.
use Rattle.std.specs.Prelude.{ℕ, ◌≡◌, refl, Result, Ok, Err, List, length}
use Rattle.std.proofs.Common.{sym, ◌∙◌}
use Rattle.meaning.specs.Calls.{Decision, refusal, answer, Written, out_after}
use Rattle.refusals.specs.Refused.{refusal_at}
use Rattle.refusals.specs.declared.Refusal.{Refusal}

-- Document 01's answer for each case: the refusal, or the number of bytes written.
abbrev pub writing_of : Decision Written → Result ℕ Refusal
writing_of (refusal number place) = Err (refusal_at number place)
writing_of (answer w) = Ok (length w.bytes)

-- What a call comes to is answered, and the buffer is as it says.
pub record Answers (decision : Decision Written) (before after : List ℕ) (result : Result ℕ Refusal) : Type 0 where
  pub is : result ≡ writing_of decision
  pub out : after ≡ out_after decision before

pub ok_not_err : {A B : Type 0} {a : A} {b : B} → Ok a ≡ Err b → ⊥
ok_not_err e = cc

-- Any two outcomes that it permits coincide.
pub one_answer :
    {decision : Decision Written} {before after after' : List ℕ} {result result' : Result ℕ Refusal}
    → Answers decision before after result
    → Answers decision before after' result'
    → (result ≡ result') × (after ≡ after')
one_answer one other = (one.is ∙ sym other.is, one.out ∙ sym other.out)

-- Whoever is answered, and not refused, knows that the call has an answer.
pub when_answered :
    {P : Type 0} (decision : Decision Written) {count : ℕ} {before after : List ℕ} {result : Result ℕ Refusal}
    → result ≡ Ok count
    → Answers decision before after result
    → ((written : Written) → decision ≡ answer written → P)
    → P
when_answered (refusal number place) is answers then = absurd (ok_not_err (sym is ∙ answers.is))
when_answered (answer written) is answers then = then written refl
