-- Rewriting over the calls: what an answered rewriting writes passes the strict check; every run, with scratch enough for the new file,
-- comes to the same outputs or the same refusal on both; gates and delay grow as said; a file that uses none of the four gates comes back
-- byte for byte.
use Rattle.std.specs.Prelude.{ℕ, ◌≡◌, refl, List, leb, length}
use Rattle.std.proofs.Common.{sym, ap, ◌∙◌, arith, leb-true}
use Rattle.meaning.specs.Syntax.{Module}
use Rattle.meaning.specs.Reading.{File, holds, fails, read, most_bytes}
use Rattle.meaning.specs.Ceilings.{Bytes, Encodes, Within}
use Rattle.meaning.specs.Layout.{encode}
use Rattle.meaning.specs.Verdict.{Verdict, good, refused, file_verdict, sizes_verdict}
use Rattle.meaning.specs.Calls.{Decision, refusal, answer, if_good, on_read, on_file, Written}
use Rattle.meaning.specs.Withdrawn.{strict_verdict, rewrite_file, occurrences_ok, nets_verdict, rewritten, rewriting}
use Rattle.laws.specs.WellFormed.{Accepted}
use Rattle.laws.specs.Accepted.{good-accepted, accepted-good}
use Rattle.laws.specs.Exactness.{exactness}
use Rattle.laws.specs.RoundTrip.{round_trip}
use Rattle.laws.specs.Calls.{demand-met, same_answer}
use Rattle.laws.specs.Withdrawn.Passes.{strict_after, accepted-after}
use Rattle.laws.specs.Withdrawn.Ceilings.{within-after}

-- What it tells that a rewriting is answered.
pub record Rewritten (file : List ℕ) (w : Written) : Type 0 where
  pub ms : List Module
  pub encodes : Encodes file ms
  pub reads : read file ≡ holds ms
  pub accepted : Accepted ms
  pub within : Within (rewrite_file ms)
  pub accepted_new : Accepted (rewrite_file ms)
  pub writes : w.bytes ≡ encode (rewrite_file ms)

refusal_no_answer : {R : Type 0} {number place : ℕ} {r : R} → refusal number place ≡ answer r → ⊥
refusal_no_answer h = let z : ◌≡◌ {A = ℕ} 0 1 = cc in omega arith

if-good : {R : Type 0} (v : Verdict) {next : Decision R} {r : R} → if_good v next ≡ answer r → (v ≡ good) × (next ≡ answer r)
if-good good h = (refl, h)
if-good (refused number place) h = absurd (refusal_no_answer h)

pub only-rewritten : (file : List ℕ) → Bytes file → (out : ℕ) (w : Written) → rewriting file out ≡ answer w → Rewritten file w
unfolding rewriting on_file
only-rewritten file bytes out w h = go (read file) refl h
  where
    told :
        (ms : List Module) → read file ≡ holds ms → if_good (file_verdict ms) (rewritten out (rewrite_file ms)) ≡ answer w → Rewritten file w
    told ms reads h =
        let checked = if-good (file_verdict ms) h in
        let few = demand-met 4 0 (occurrences_ok (rewrite_file ms)) checked.1 in
        let nets = if-good (nets_verdict 0 (rewrite_file ms)) few.answered in
        let sizes = if-good (sizes_verdict 0 (rewrite_file ms)) nets.1 in
        let short = demand-met 1 0 (leb (length (encode (rewrite_file ms))) most_bytes) sizes.1 in
        let fits = demand-met 22 0 (leb (length (encode (rewrite_file ms))) out) short.answered in
        let accepted = good-accepted ms checked.0 in
        let encodes = exactness file bytes ms reads in
        record {
          ms = ms;
          encodes = encodes;
          reads = reads;
          accepted = accepted;
          within = within-after accepted encodes.within few.met (leb-true _ most_bytes short.met);
          accepted_new = accepted-after 0 0 accepted nets.0 sizes.0;
          writes = ap (λ (u : Written). u.bytes) (same_answer (sym fits.answered));
        }

    go : (f : File) → read file ≡ f → on_read f (λ ms. rewritten out (rewrite_file ms)) ≡ answer w → Rewritten file w
    go (holds ms) reads h = told ms reads h
    go (fails number place) reads h = absurd (refusal_no_answer h)

module _ {file : List ℕ} {w : Written} (r : Rewritten file w) where
  pub new-reads : read w.bytes ≡ holds (rewrite_file r.ms)
  new-reads = ap read r.writes ∙ round_trip (rewrite_file r.ms) r.within

  -- It passes the strict check.
  pub passes_strict : strict_verdict w.bytes ≡ good
  unfolding strict_verdict
  passes_strict = rw (new-reads, accepted-good r.accepted_new) (strict_after 0 r.ms)
