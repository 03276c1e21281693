-- From what the count answers to a line.
use Rattle.std.proofs.Common.{ℕ, ◌≡◌, List, Result, Ok, Err, ap, sym, ◌∙◌}
use Rattle.std.proofs.Math.Path.{subst}
use Rattle.refusals.specs.declared.Refusal.{Refusal}
use Rattle.meaning.specs.Calls.{Decision, refusal, answer}
use Rattle.meaning.specs.Family.{Summary}
use Rattle.meaning.specs.Listing.{line}
use Rattle.answers.specs.Answers.{ok_not_err}
use Rattle.call_count.specs.Answers.{counted_of, figures_of as as_answered}
use Rattle.call_count.specs.declared.counts.Figures.{Figures}
use Rattle.list_text.specs.Pieces.{PutDown}
use Rattle.list_text.specs.Lines.{figures_of}
use Rattle.list_text.specs.declared.Counts.{Counts}

-- What a line says of the figures.
abbrev pub counts_of : Figures → Counts
counts_of f =
    record {
      inputs = f.inputs;
      outputs = f.outputs;
      gates = f.gates;
      size = f.size;
      room = f.room;
      delay = f.delay;
      load = f.load;
      family = f.family;
    }

module _ (position number : ℕ) {out out' : List ℕ} {r : ℕ} {counted : Result Figures Refusal} where
  pub answered :
      {figures : Figures} → counted ≡ Ok figures
      → ((tally : List ℕ) → PutDown (line position number (answer (figures_of (counts_of figures) tally))) out 0 out' r)
      → (decision : Decision Summary)
      → counted ≡ counted_of decision
      → PutDown (line position number decision) out 0 out' r
  answered is put (refusal n p) e = absurd (ok_not_err (sym is ∙ e))
  answered {figures} is put (answer s) e =
      let tally = s.figures.tally in
      let answered : figures ≡ as_answered s = cc in
      let same : figures_of (counts_of figures) tally ≡ s = ap (λ (x : Figures). figures_of (counts_of x) tally) answered in
      subst (λ (x : Summary). PutDown (line position number (answer x)) out 0 out' r) same (put tally)

  pub refused :
      {why : Refusal} → counted ≡ Err why
      → ((place : ℕ) → PutDown (line position number (refusal why.number place)) out 0 out' r)
      → (decision : Decision Summary)
      → counted ≡ counted_of decision
      → PutDown (line position number decision) out 0 out' r
  refused {why} is put (refusal n p) e =
      let same : why.number ≡ n = cc in
      subst (λ (x : ℕ). PutDown (line position number (refusal x p)) out 0 out' r) same (put p)
  refused is put (answer s) e = absurd (ok_not_err (sym e ∙ is))
