-- What it tells that a listing is given: the file is accepted, the names are good, and the bytes are the text, which fits.
use Rattle.std.specs.Prelude.{ℕ, ◌≤◌, ◌≡◌, refl, List, eqb, leb, length}
use Rattle.std.proofs.Common.{sym, ap, ◌∙◌, arith, eqb-true, leb-true}
use Rattle.meaning.specs.Syntax.{Module}
use Rattle.meaning.specs.Ceilings.{Bytes}
use Rattle.meaning.specs.Reading.{File, holds, fails, read}
use Rattle.meaning.specs.Verdict.{Verdict, good, refused, file_verdict}
use Rattle.meaning.specs.Calls.{Decision, refusal, answer, Written, if_good, on_read, on_file}
use Rattle.meaning.specs.Ndl.{first_bad, ndl_text, ndl_on, ndl_listing}
use Rattle.laws.specs.Calls.{same_answer, demand-met}
use Rattle.laws.specs.Ndl.Names.{GoodNames}
use Rattle.laws.specs.Ndl.Determined.{equal_files_by-text}

pub record Listed (file names : List ℕ) (out : ℕ) (w : Written) : Type 0 where
  pub ms : List Module
  pub reads : read file ≡ holds ms
  pub accepted : file_verdict ms ≡ good
  pub names-good : GoodNames names
  pub text : w.bytes ≡ ndl_text names ms
  pub fits : length w.bytes ≤ out

refusal_no_answer : {number place : ℕ} {w : Written} → refusal number place ≡ answer w → ⊥
refusal_no_answer h = let z : ◌≡◌ {A = ℕ} 0 1 = cc in omega arith

listed-on : (file names : List ℕ) (out : ℕ) (w : Written) (ms : List Module) → read file ≡ holds ms → file_verdict ms ≡ good
    → ndl_on names out ms ≡ answer w → Listed file names out w
unfolding ndl_on
listed-on file names out w ms reads accepted h =
    let one = demand-met 29 0 (eqb (length names) 128) h in
    let two = demand-met 29 (first_bad names) (eqb (first_bad names) 16) one.answered in
    let three = demand-met 22 0 (leb (length (ndl_text names ms)) out) two.answered in
    let same : ndl_text names ms ≡ w.bytes = ap (λ (v : Written). v.bytes) (same_answer three.answered) in
    record {
      ms = ms;
      reads = reads;
      accepted = accepted;
      names-good = record { long = eqb-true (length names) 128 one.met; all = eqb-true (first_bad names) 16 two.met };
      text = sym same;
      fits = omega (arith, leb-true (length (ndl_text names ms)) out three.met, ap length same);
    }

pub listed : (file names : List ℕ) (out : ℕ) {w : Written} → ndl_listing file names out ≡ answer w → Listed file names out w
unfolding ndl_listing on_file
listed file names out {w} = reading (read file) refl
  where
    accepting : (ms : List Module) → read file ≡ holds ms → (v : Verdict) → file_verdict ms ≡ v → if_good v (ndl_on names out ms) ≡ answer w
        → Listed file names out w
    accepting ms reads good e h = listed-on file names out w ms reads e h
    accepting ms reads (refused number place) e h = absurd (refusal_no_answer h)

    reading : (f : File) → read file ≡ f → on_read f (ndl_on names out) ≡ answer w → Listed file names out w
    reading (holds ms) e h = accepting ms e (file_verdict ms) refl h
    reading (fails number place) e h = absurd (refusal_no_answer h)

-- Two accepted files have equal text only if they are equal, under one list of names.
pub equal_listings :
    (xs ys names : List ℕ) (out out' : ℕ) {w v : Written} → Bytes xs → Bytes ys
    → ndl_listing xs names out ≡ answer w → ndl_listing ys names out' ≡ answer v → w.bytes ≡ v.bytes → xs ≡ ys
equal_listings xs ys names out out' xs-ok ys-ok h k same =
    let one = listed xs names out h in
    let other = listed ys names out' k in
    equal_files_by-text one.names-good xs ys xs-ok ys-ok one.ms other.ms one.reads other.reads
    (sym one.text ∙ same ∙ other.text)
