-- What reading leaves: the numbers of the text's file, or a refusal.
use Prim.Native.Nat.{ℕ, ◌≤◌, ◌<◌}
use mathlib.Core.Path.{◌≡◌, refl, sym, ◌∙◌, ap}
use mathlib.Core.List.{List}
use lib.ListN.{length, take, drop, length-map}
use borrow.Author.Tests.{le-leb, lt-leb}
use Rattle.meaning.specs.Layout.{file_numbers}
use Rattle.meaning.specs.Calls.{Decision, refusal, answer}
use Rattle.meaning.specs.ListForm.{ListedModule}
use Rattle.meaning.specs.ListNumbers.{numbered}
use Rattle.meaning.specs.ListCall.{reading}
use Rattle.laws.specs.Texts.Answered.{answered-fits}
use Rattle.std.specs.Prelude.{Result, Ok, Err}
use Rattle.std.proofs.Common.{arith}
use Rattle.refusals.specs.declared.Refusal.{Refusal}
use Rattle.text_reader.specs.Reading.{ReadAs, Reads}
use Rattle.fault_parts.specs.Asked.{Whole}
use Rattle.text_faults.specs.declared.Fault.{Fault}
use Rattle.text_faults.specs.Faults.{no_fault, fault_at, fault_of, text_fault}

pub record Listed (text numbers : List ℕ) (count : ℕ) : Type 0 where
  pub ms : List ListedModule
  pub is : reading text ≡ answer ms
  pub numbers-are : take count numbers ≡ file_numbers (numbered ms)
  pub inside : count ≤ length numbers

pub refused_none : {text numbers : List ℕ} {r : Result ℕ Refusal} {e : Refusal} → Reads text numbers r → (position : ℕ) → r ≡ Err e
    → no_fault 0 ≡ fault_of (reading text) position
refused_none {text} {numbers} {r} {e} h position is = go (reading text) h.right
  where
    go : (d : Decision (List ListedModule)) → ReadAs d numbers r → no_fault 0 ≡ fault_of d position
    go (refusal number place) a = refl
    go (answer ms) (count, read, are, few) = absurd cc

pub listed : {text numbers : List ℕ} {r : Result ℕ Refusal} {count : ℕ} → Reads text numbers r → r ≡ Ok count → Listed text numbers count
listed {text} {numbers} {r} {count} h is = go (reading text) refl h.right
  where
    go : (d : Decision (List ListedModule)) → reading text ≡ d → ReadAs d numbers r → Listed text numbers count
    go (refusal number place) e (a, some) = absurd cc
    go (answer ms) e (n, read, are, few) =
        let same : n ≡ count = cc in
        record { ms = ms; is = e; numbers-are = rw same at are; inside = omega arith }

module _ {text numbers : List ℕ} {count : ℕ} (l : Listed text numbers count) where
  pub few : length (numbered l.ms) ≤ 128
  unfolding numbered
  few = rw length-map (answered-fits text l.ms l.is).count

  abbrev pub whole : Whole (take count numbers)
  whole = record { ms = numbered l.ms; is = l.numbers-are; few = few }

  pub fault_listed : {f : Fault} (position : ℕ) → f ≡ fault_at (drop position (numbered l.ms)) → f ≡ fault_of (reading text) position
  fault_listed position e = e ∙ ap (λ d. fault_of d position) (sym l.is)

-- 33, or what reading gives.
pub over-long : (text : List ℕ) (position : ℕ) → 262144 < length text → no_fault 0 ≡ text_fault text position
unfolding text_fault
over-long text position l = rw (lt-leb (length text) 262144 l)

pub not_long : (text : List ℕ) (position : ℕ) {f : Fault} → length text ≤ 262144 → f ≡ fault_of (reading text) position → f ≡ text_fault text position
unfolding text_fault
not_long text position l e = rw (le-leb (length text) 262144 l) e
