-- What an opened file says of the rewriting, by what was decided of the new file.
use Rattle.std.specs.Prelude.{Result, Ok, Err}
use Rattle.refusals.specs.Refused.{refusal_at}
use Rattle.refusals.specs.declared.Refusal.{Refusal}
use Prim.Native.Nat.{ℕ, ◌≤◌, ◌<◌}
use mathlib.Core.Path.{◌≡◌, refl, ap, subst, ◌∙◌}
use mathlib.Core.List.{List}
use native.Mathlib.Omega.{arith}
use borrow.Author.Tests.{le-leb, lt-leb}
use lib.ListN.{length, take, drop}
use lib.Seq.{take_at}
use Rattle.meaning.specs.Syntax.{Module}
use Rattle.meaning.specs.Layout.{encode}
use Rattle.meaning.specs.Reading.{most_bytes}
use Rattle.meaning.specs.Ceilings.{Bytes}
use Rattle.meaning.specs.Verdict.{refused, verdict}
use Rattle.meaning.specs.Calls.{Decision, refusal, Written, fitting}
use Rattle.meaning.specs.Withdrawn.{rewrite_file, rewritten, rewriting}
use Rattle.laws.specs.Withdrawn.Unchanged.{unchanged}
use Rattle.answers.specs.Answers.{Answers}
use Rattle.bytes_out.specs.Filled.{Put}
use Rattle.open_file.specs.Prepared.{Opened}
use Rattle.open_file.specs.Opening.{asks, refused-ends}
use Rattle.call_rewrite.specs.Standing.{strict_accepted}
use Rattle.call_rewrite.specs.Growing.{finished, DecidedOf, Decides}
use Rattle.call_rewrite.specs.declared.deciding.Decided.{Decided}
use Rattle.call_rewrite.specs.declared.deciding.Decided.TheVariants.{Stays, Go}

-- A refusal leaves the buffer as it is.
refusal-answers : {d : Decision Written} {number place : ℕ} (before : List ℕ) → d ≡ refusal number place → Answers d before before (Err (refusal_at number place))
refusal-answers before e = rw e (record { is = refl; out = refl })

pub file-refused :
    (file : List ℕ) (out : ℕ) (before : List ℕ) {number place : ℕ} → verdict file ≡ refused number place
    → Answers (rewriting file out) before before (Err (refusal_at number place))
unfolding rewriting
file-refused file out before {number} {place} e =
    refusal-answers before (refused-ends file number place e (λ ms. rewritten out (rewrite_file ms)))

pub decided : {ms : List Module} {own : List ℕ} {r s : Result Decided Refusal} → Decides ms own r → r ≡ s → DecidedOf ms s
decided {ms} d e = subst (DecidedOf ms) e d.says

module _ {file : List ℕ} {modules : ℕ} {image starts names nets sizes rooms : List ℕ} (o : Opened file modules image starts names nets sizes rooms)
    {own : List ℕ} {r : Result Decided Refusal} (d : Decides o.ms own r) (out : ℕ) where
  comes_to : rewriting file out ≡ rewritten out (rewrite_file o.ms)
  unfolding rewriting
  comes_to = asks o (λ ms. rewritten out (rewrite_file ms))

  pub new-refused : (before : List ℕ) {why : Refusal} → r ≡ Err why → Answers (rewriting file out) before before (Err why)
  new-refused before e = refusal-answers before (comes_to ∙ decided d e out)

  pub new-written : {before after : List ℕ} {w : Result ℕ Refusal} → r ≡ Ok Go → Answers (finished (rewrite_file o.ms) out) before after w
      → Answers (rewriting file out) before after w
  new-written e a = let same = comes_to ∙ (decided d e).1 out in rw same a

  -- A file that stays is its own answer.
  pub same-written : {before after : List ℕ} {w : Result ℕ Refusal} → Bytes file → r ≡ Ok Stays → Answers (fitting file 0 out) before after w
      → Answers (rewriting file out) before after w
  same-written bytes e a =
      let strict = strict_accepted file o.ms o.reads o.held.good ∙ decided d e in
      rw (unchanged file bytes strict out) a

-- The end: 1, or the bytes that stand at the front of the list.
module _ (new : List Module) {before bytes : List ℕ} {long : ℕ} (p : Put (encode new) before 0 bytes long) (out : ℕ) where
  pub too_long : (buffer : List ℕ) → most_bytes < long → Answers (finished new out) buffer buffer (Err (refusal_at 1 0))
  too_long buffer over = rw (lt-leb (length (encode new)) most_bytes (omega (arith, p.place))) (record { is = refl; out = refl })

  pub whole : take long bytes ≡ encode new
  whole = ap (take long) p.holds ∙ take_at (encode new) (drop long before) long (omega (arith, p.place))

  pub short-answers :
      {buffer after : List ℕ} {w : Result ℕ Refusal} → long ≤ most_bytes → Answers (fitting (take long bytes) 0 out) buffer after w
      → Answers (finished new out) buffer after w
  short-answers {buffer} {after} {w} short a =
      rw (le-leb (length (encode new)) most_bytes (omega (arith, p.place)))
      (subst (λ (l : List ℕ). Answers (fitting l 0 out) buffer after w) whole a)
