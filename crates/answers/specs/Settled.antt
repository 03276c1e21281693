-- What a call that writes and works in scratch promises: the answer, and what both lent buffers hold afterwards.
use Rattle.std.specs.Prelude.{ℕ, ◌≡◌, Result, List}
use Rattle.std.proofs.Common.{sym, ◌∙◌}
use Rattle.meaning.specs.Calls.{Decision, Written, scratch_after}
use Rattle.refusals.specs.declared.Refusal.{Refusal}
use Rattle.answers.specs.Answers.{Answers}

-- What a call comes to is answered, and scratch and output buffer are as it says.
pub record Settles (decision : Decision Written) (scratch out scratch' out' : List ℕ) (result : Result ℕ Refusal) : Type 0 where
  pub answered : Answers decision out out' result
  pub scratched : scratch' ≡ scratch_after (λ w. w.cleared) decision scratch

-- Any two outcomes that it permits coincide.
pub one-outcome :
    {decision : Decision Written} {scratch out scratch' out' scratch'' out'' : List ℕ} {result result' : Result ℕ Refusal}
    → Settles decision scratch out scratch' out' result
    → Settles decision scratch out scratch'' out'' result'
    → (result ≡ result') × (scratch' ≡ scratch'') × (out' ≡ out'')
one-outcome f g =
    (f.answered.is ∙ sym g.answered.is, f.scratched ∙ sym g.scratched, f.answered.out ∙ sym g.answered.out)
