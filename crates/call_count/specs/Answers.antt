-- What a count answers, and what it leaves in the scratch that was lent to it.
use Rattle.std.specs.Prelude.{ℕ, ◌≡◌, refl, Result, Ok, Err, List}
use Rattle.std.proofs.Common.{sym, ◌∙◌}
use Rattle.meaning.specs.Calls.{Decision, refusal, answer, number_of, place_of, scratch_after}
use Rattle.meaning.specs.Family.{Summary}
use Rattle.refusals.specs.Refused.{refusal_at, number_in, place_in}
use Rattle.refusals.specs.declared.Refusal.{Refusal}
use Rattle.call_count.specs.declared.counts.Figures.{Figures}

-- The figures that are meant, as they are answered.
abbrev pub figures_of : Summary → Figures
figures_of s =
    let f = s.figures in
    record {
      inputs = f.inputs;
      outputs = f.outputs;
      tally = record { counts = f.tally };
      gates = f.gates;
      size = f.size;
      room = f.room;
      delay = f.delay;
      load = f.load;
      family = s.family_delay;
    }

-- Document 01's answer: the refusal, or the figures.
abbrev pub counted_of : Decision Summary → Result Figures Refusal
counted_of (refusal number place) = Err (refusal_at number place)
counted_of (answer s) = Ok (figures_of s)

-- What a call comes to is answered, and scratch is as it says.
pub record Counts (decision : Decision Summary) (before after : List ℕ) (result : Result Figures Refusal) : Type 0 where
  pub is : result ≡ counted_of decision
  pub scratch : after ≡ scratch_after (λ s. s.figures.room) decision before

-- The number and the place are those of the decision.
pub number_is : (decision : Decision Summary) → number_in (counted_of decision) ≡ number_of decision
number_is (refusal number place) = refl
number_is (answer s) = refl

pub place_is : (decision : Decision Summary) → place_in (counted_of decision) ≡ place_of decision
place_is (refusal number place) = refl
place_is (answer s) = refl

-- Any two outcomes that the contract permits coincide.
pub one-outcome :
    {decision : Decision Summary} {before after after' : List ℕ} {result result' : Result Figures Refusal}
    → Counts decision before after result
    → Counts decision before after' result'
    → (result ≡ result') × (after ≡ after')
one-outcome one other = (one.is ∙ sym other.is, one.scratch ∙ sym other.scratch)
