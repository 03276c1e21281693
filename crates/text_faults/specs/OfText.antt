-- A text that is refused with 11 to 14: what is found is the first occurrence at fault of the module at the refusal's place.
use Rattle.std.specs.Prelude.{ℕ, ◌≡◌, Bool, cond, List, length}
use Rattle.std.proofs.Common.{arith}
use Rattle.std.proofs.Math.Path.{refl}
use Rattle.std.proofs.Math.Bool.{true, false}
use Rattle.std.proofs.Math.Dec.{leb}
use Rattle.meaning.specs.Layout.{encode}
use Rattle.meaning.specs.Reading.{most_bytes}
use Rattle.meaning.specs.Verdict.{Verdict, good, refused, file_verdict}
use Rattle.meaning.specs.Calls.{Decision, refusal, answer, demand, if_good, fitting}
use Rattle.meaning.specs.ListForm.{ListedModule, Lists}
use Rattle.meaning.specs.ListNumbers.{numbered}
use Rattle.meaning.specs.ListCall.{most_text, reading, on_listed, shelving, list_reading}
use Rattle.laws.specs.Texts.Outcome.{Read, lists, wrong, too_much, read_right}
use Rattle.text_faults.specs.declared.Fault.{Fault}
use Rattle.text_faults.specs.Faults.{no_fault, fault_of, text_fault}
use Rattle.text_faults.specs.Breaking.{FirstAt}
use Rattle.text_faults.specs.Located.{OfOccurrences, first-fault}

pub record FirstInText (text : List ℕ) (number position : ℕ) (f : Fault) : Type 0 where
  pub ms : List ListedModule
  pub lists : Lists text ms
  pub first : FirstAt (numbered ms) number position f

module _ (text : List ℕ) (number position out : ℕ) (n : OfOccurrences number) where
  -- A refusal of another number is not given.
  kept : {R : Type 0} (k place : ℕ) (b : Bool) (next : Decision R) → ¬ (number ≡ k) → demand k place b next ≡ refusal number position
      → next ≡ refusal number position
  kept k place true next other e = e
  kept k place false next other e = absurd (other (cc))

  in_file : (v : Verdict) (bytes : List ℕ) → if_good v (fitting bytes 0 out) ≡ refusal number position → v ≡ refused number position
  in_file (refused k p) bytes e = cc
  in_file good bytes e =
      absurd
      (let never = kept 22 0 (leb (length bytes) out) _ (λ q. omega arith) e in
      let z : ◌≡◌ {A = ℕ} 0 1 = cc in
      omega arith)

  read_fault : (d : Decision (List ListedModule)) → Read text d
      → on_listed d (λ ms. shelving (numbered ms) out) ≡ refusal number position → FirstInText text number position (fault_of d position)
  read_fault (answer ms) (lists l) e =
      let wrong-file = kept 1 0 (leb (length (encode (numbered ms))) most_bytes) _ (λ q. omega arith) e in
      record {
        ms = ms;
        lists = l;
        first = first-fault number position n (numbered ms) (in_file (file_verdict (numbered ms)) (encode (numbered ms)) wrong-file);
      }
  read_fault (refusal k p) (wrong a b) e = absurd (let z : number ≡ 25 = cc in omega arith)
  read_fault (refusal k p) (too_much a) e = absurd (let z : number ≡ 26 = cc in omega arith)

  pub text-fault : list_reading text out ≡ refusal number position → FirstInText text number position (text_fault text position)
  unfolding list_reading text_fault
  text-fault e = go (leb (length text) most_text) refl e
    where
      go : (b : Bool) → leb (length text) most_text ≡ b
          → demand 33 0 b (on_listed (reading text) (λ ms. shelving (numbered ms) out)) ≡ refusal number position
          → FirstInText text number position (cond b (fault_of (reading text) position) (no_fault 0))
      go true is e = read_fault (reading text) (read_right text) e
      go false is e = absurd (let z : number ≡ 33 = cc in omega arith)
