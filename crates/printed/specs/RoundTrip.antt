-- What it is that two files answer alike, and what printing a file and reading a text give. That the file that comes back answers as the
-- one that was printed is in proofs/RoundTrip.antt.
use Rattle.std.specs.Prelude.{ℕ, ◌≤◌, ◌≡◌, refl, Bool, true, false, List, leb, length}
use Rattle.std.proofs.Common.{sym, ap, leb-true, le-ltb}
use Rattle.meaning.specs.Lists.{All, none, more}
use Rattle.meaning.specs.Syntax.{Module}
use Rattle.meaning.specs.Boxlist.{assoc}
use Rattle.meaning.specs.Layout.{encode}
use Rattle.meaning.specs.Ceilings.{ModulesWithin}
use Rattle.meaning.specs.Reading.{File, holds, fails, read, most_bytes}
use Rattle.meaning.specs.Verdict.{Verdict, good, refused, file_verdict}
use Rattle.meaning.specs.Calls.{answer, demand, if_good, on_read, on_file, on_module, Written, evaluation, counting, flattening}
use Rattle.laws.specs.WellFormed.{Accepted}
use Rattle.laws.specs.WellFormed as accepted
use Rattle.laws.specs.Accepted.{good-accepted}
use Rattle.meaning.specs.ListNumbers.{numbered}
use Rattle.meaning.specs.ListPrint.{list_text, printing_of, list_printing}
use Rattle.laws.specs.Texts.Answered.{refusal_no_answer}
use Rattle.renaming.specs.Renamed.{KeepsGates}
use Rattle.renaming.specs.Calls.{flattening_under}
use Rattle.printed.specs.Listed.{listed}
use Rattle.printed.specs.ReadBack.{NoGate}

-- Two files that answer alike: what one says of a module, the other says of it under its other number.
pub record SameAnswers (file back : List ℕ) : Type 0 where
  pub number : ℕ → ℕ
  pub keeps : KeepsGates number
  pub evaluates : (x : ℕ) (values : List ℕ) (scratch out : ℕ) → evaluation back (number x) values scratch out ≡ evaluation file x values scratch out
  pub counts : (x scratch : ℕ) → counting back (number x) scratch ≡ counting file x scratch
  pub flattens : (x scratch out : ℕ)
      → flattening back (number x) scratch out ≡ on_file file (λ ms. on_module (assoc x ms) (flattening_under (number x) x scratch out ms))

no_gates : {ms : List Module} → Accepted ms → All NoGate ms
no_gates accepted.none = none
no_gates (accepted.some {m} ok rest) = more (le-ltb m.number 16 ok.above) (no_gates rest)

-- The modules that come back.
abbrev pub back : List Module → List Module
back ms = numbered (listed ms)

-- Of an accepted file.
module _ (ms : List Module) (within : ModulesWithin ms) (ok : file_verdict ms ≡ good) where
  pub highs : All NoGate ms
  highs = no_gates (good-accepted ms ok)

-- What a file that is printed is.
pub record Printed (file : List ℕ) (w : Written) : Type 0 where
  pub ms : List Module
  pub reads : read file ≡ holds ms
  pub ok : file_verdict ms ≡ good
  pub text : w.bytes ≡ list_text ms

pub printed : (file : List ℕ) (out : ℕ) (w : Written) → list_printing file out ≡ answer w → Printed file w
unfolding list_printing on_file
printed file out w e = go (read file) refl e
  where
    fits : (ms : List Module) → read file ≡ holds ms → file_verdict ms ≡ good → (t : Bool)
        → demand 22 0 t (answer (record { bytes = list_text ms; cleared = 0 })) ≡ answer w → Printed file w
    fits ms reads ok false h = absurd (refusal_no_answer h)
    fits ms reads ok true h =
        let same : record { bytes = list_text ms; cleared = 0 } ≡ w = cc in
        record { ms = ms; reads = reads; ok = ok; text = sym (ap (λ (x : Written). x.bytes) same) }

    judged : (ms : List Module) → read file ≡ holds ms → (v : Verdict) → file_verdict ms ≡ v → if_good v (printing_of out ms) ≡ answer w → Printed file w
    judged ms reads (refused number place) f h = absurd (refusal_no_answer h)
    judged ms reads good f h = fits ms reads f (leb (length (list_text ms)) out) h

    go : (r : File) → read file ≡ r → on_read r (printing_of out) ≡ answer w → Printed file w
    go (fails number place) reads h = absurd (refusal_no_answer h)
    go (holds ms) reads h = judged ms reads (file_verdict ms) refl h

-- What reading it back gives.
pub record ReadBack (ms : List Module) (w : Written) : Type 0 where
  pub bytes : w.bytes ≡ encode (back ms)
  pub few : length (encode (back ms)) ≤ most_bytes

pub read_so : (ms : List Module) (out : ℕ) (w : Written) (t v u : Bool) → leb (length (encode (back ms))) most_bytes ≡ v
    → demand 33 0 t (demand 1 0 v (demand 22 0 u (answer (record { bytes = encode (back ms); cleared = 0 })))) ≡ answer w → ReadBack ms w
read_so ms out w false v u e h = absurd (refusal_no_answer h)
read_so ms out w true false u e h = absurd (refusal_no_answer h)
read_so ms out w true true false e h = absurd (refusal_no_answer h)
read_so ms out w true true true e h =
    let same : record { bytes = encode (back ms); cleared = 0 } ≡ w = cc in
    record { bytes = sym (ap (λ (x : Written). x.bytes) same); few = leb-true (length (encode (back ms))) most_bytes e }
