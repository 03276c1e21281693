-- Printing a file and reading the text back: the file that comes back answers as the one that was printed, under other numbers.
use Rattle.std.specs.Prelude.{ℕ, ◌≤◌, ◌≡◌, refl, Bool, List, leb, length}
use Rattle.std.proofs.Common.{arith, sym, ap, ◌∙◌, le-leb}
use Rattle.meaning.specs.Syntax.{Module}
use Rattle.meaning.specs.Layout.{encode}
use Rattle.meaning.specs.Ceilings.{Bytes, ModulesWithin}
use Rattle.meaning.specs.Reading.{holds, read, most_bytes}
use Rattle.meaning.specs.Verdict.{good, file_verdict}
use Rattle.meaning.specs.Calls.{answer, demand, Written, fitting}
use Rattle.laws.specs.Exactness.{exactness}
use Rattle.laws.specs.RoundTrip.{round_trip as reads-written}
use Rattle.meaning.specs.ListCall.{most_text, reading, list_reading}
use Rattle.meaning.specs.ListPrint.{list_text, list_printing}
use Rattle.laws.specs.Texts.PrintLong.{long-text}
use Rattle.laws.specs.Texts.Exactly.{fitting-answered}
use Rattle.laws.specs.Texts.Shelved.{numbered_within}
use Rattle.renaming.specs.Renamed.{Renamed}
use Rattle.renaming.proofs.Verdicts.{verdict_renamed}
use Rattle.renaming.proofs.Calls.{same-evaluation, same-counting, same-flattening}
use Rattle.renaming.proofs.Sizes.{size_renamed}
use Rattle.printed.specs.Listed.{listed}
use Rattle.printed.proofs.InGrammar.{printed-lists}
use Rattle.printed.specs.ReadBack.{renumber}
use Rattle.printed.proofs.ReadBack.{renumber-keeps, read_back}
use Rattle.printed.proofs.Fits.{listed-fits}
use Rattle.printed.specs.RoundTrip.{SameAnswers, back, highs, printed, ReadBack, read_so}

-- Of an accepted file.
module _ (ms : List Module) (within : ModulesWithin ms) (ok : file_verdict ms ≡ good) where
  pub back_renamed : Renamed (renumber ms) ms (back ms)
  back_renamed = read_back ms within.modules (highs ms within ok)

  pub back-good : file_verdict (back ms) ≡ good
  back-good = verdict_renamed (renumber-keeps ms) back_renamed ∙ ok

  pub back-within : ModulesWithin (back ms)
  back-within = numbered_within (listed ms) (listed-fits ms within (highs ms within ok))

  -- The text has one reading, and it is not refused.
  pub printed-reading : reading (list_text ms) ≡ answer (listed ms)
  printed-reading = fitting-answered (list_text ms) (listed ms) (printed-lists ms) (listed-fits ms within (highs ms within ok))

  -- What the call that reads makes of it: 33, 1 and 22 are left, and nothing else.
  pub printed-read : (out : ℕ)
      → list_reading (list_text ms) out
      ≡ demand 33 0 (leb (length (list_text ms)) most_text) (demand 1 0 (leb (length (encode (back ms))) most_bytes) (fitting (encode (back ms)) 0 out))
  unfolding list_reading
  printed-read out = rw (printed-reading, back-good)

  -- Neither 33 nor 1 for a file of up to 32,767 bytes.
  pub short-enough : length (encode ms) ≤ 32767 → (length (list_text ms) ≤ most_text) × (length (encode (back ms)) ≤ most_bytes)
  short-enough few = (omega (arith, few, long-text ms within), omega (arith, few, size_renamed back_renamed))

  pub short-read : length (encode ms) ≤ 32767 → (out : ℕ) → list_reading (list_text ms) out ≡ fitting (encode (back ms)) 0 out
  short-read few out =
      let both = short-enough few in
      printed-read out
      ∙ ap (λ (t : Bool). demand 33 0 t (demand 1 0 (leb (length (encode (back ms))) most_bytes) (fitting (encode (back ms)) 0 out)))
      (le-leb (length (list_text ms)) most_text both.0)
      ∙ ap (λ (t : Bool). demand 1 0 t (fitting (encode (back ms)) 0 out)) (le-leb (length (encode (back ms))) most_bytes both.1)

  answers-alike : (file : List ℕ) → read file ≡ holds ms → length (encode (back ms)) ≤ most_bytes → SameAnswers file (encode (back ms))
  answers-alike file reads few =
      let again : read (encode (back ms)) ≡ holds (back ms) = reads-written (back ms) (record { modules = back-within; bytes = few }) in
      record {
        number = renumber ms;
        keeps = renumber-keeps ms;
        evaluates = same-evaluation (renumber-keeps ms) back_renamed file (encode (back ms)) reads again;
        counts = same-counting (renumber-keeps ms) back_renamed file (encode (back ms)) reads again;
        flattens = same-flattening (renumber-keeps ms) back_renamed file (encode (back ms)) reads again;
      }

-- Over the calls: where printing a file is answered and reading the text is, the file that comes back answers as the first did.
pub round_trip : (file : List ℕ) → Bytes file → (out out' : ℕ) (w w' : Written) → list_printing file out ≡ answer w → list_reading w.bytes out' ≡ answer w'
    → SameAnswers file w'.bytes
round_trip file bytes out out' w w' e f =
    let p = printed file out w e in
    let within : ModulesWithin p.ms = (exactness file bytes p.ms p.reads).within.modules in
    let r : ReadBack p.ms w' =
    read_so p.ms out' w' (leb (length (list_text p.ms)) most_text) (leb (length (encode (back p.ms))) most_bytes) (leb (length (encode (back p.ms))) out') refl
    (sym (printed-read p.ms within p.ok out') ∙ ap (λ (text : List ℕ). list_reading text out') (sym p.text) ∙ f) in
    rw r.bytes (answers-alike p.ms within p.ok file p.reads r.few)
