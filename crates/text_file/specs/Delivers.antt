-- The check of a whole file and its answer; and what comes of a text that was read.
use Rattle.refusals.specs.declared.Refusal.{Refusal}
use Rattle.std.specs.Prelude.{Result, Ok, Err, ℕ, ◌+◌, ◌*◌, ◌≤◌, ◌<◌, min, ◌≡◌, refl, List, length, take, drop}
use Rattle.std.proofs.Common.{arith, sym, ◌∙◌, subst, take_at, length-take-le, le-leb}
use Rattle.std.proofs.Math.Path.{ap}
use Rattle.std.proofs.lemmas.Bool.{lt-leb}
use Rattle.meaning.specs.Lists.{All}
use Rattle.meaning.specs.Layout.{each, number_bytes, encode, file_numbers}
use Rattle.meaning.specs.Ceilings.{Small}
use Rattle.meaning.specs.Verdict.{Verdict, good, refused, file_verdict}
use Rattle.meaning.specs.Calls.{Decision, refusal, answer, if_good, fitting, on_file, module_count}
use Rattle.laws.specs.RoundTrip.{round_trip}
use Rattle.meaning.specs.ListForm.{ListedModule}
use Rattle.meaning.specs.ListNumbers.{numbered}
use Rattle.meaning.specs.ListCall.{reading, on_listed, shelving}
use Rattle.laws.specs.Texts.Answered.{answered-fits}
use Rattle.laws.specs.Texts.Shelved.{numbered_within}
use Rattle.answers.specs.Answers.{Answers, ok_not_err}
use Rattle.answers.specs.Contents.{found_of}
use Rattle.bytes_out.specs.Filled.{Put}
use Rattle.write_pieces.specs.Rooms.{Room}
use Rattle.refusals.specs.Refused.{refusal_at}
use Rattle.text_reader.specs.Reading.{ReadAs, Reads}
use Rattle.text_file.specs.Filing.{Whole, Filed, Ready, after_reading}
use Rattle.text_file.specs.Sizes.{twice, file-small}

-- The count of a whole file's modules is its check.
count_of : {file : List ℕ} (w : Whole file) → module_count file ≡ if_good (file_verdict w.ms) (answer (length w.ms))
unfolding module_count on_file
count_of w = rw (w.is, round_trip w.ms w.within)

module _ {file : List ℕ} (w : Whole file) (out : ℕ) (before : List ℕ) where
  pub delivers-refused : {r : Refusal} → Err r ≡ found_of (module_count file)
      → Answers (if_good (file_verdict w.ms) (fitting (encode w.ms) 0 out)) before before (Err r)
  delivers-refused {r} e = go (file_verdict w.ms) (e ∙ ap found_of (count_of w))
    where
      go : (v : Verdict) → Err r ≡ found_of (if_good v (answer (length w.ms)))
          → Answers (if_good v (fitting (encode w.ms) 0 out)) before before (Err r)
      go good h = absurd (ok_not_err (sym h))
      go (refused n p) h = record { is = h; out = refl }

  pub delivers : {count : ℕ} {after : List ℕ} {writing : Result ℕ Refusal} → Ok count ≡ found_of (module_count file)
      → Answers (fitting file 0 out) before after writing
      → Answers (if_good (file_verdict w.ms) (fitting (encode w.ms) 0 out)) before after writing
  delivers {count} {after} {writing} e a = go (file_verdict w.ms) (e ∙ ap found_of (count_of w))
    where
      go : (v : Verdict) → Ok count ≡ found_of (if_good v (answer (length w.ms)))
          → Answers (if_good v (fitting (encode w.ms) 0 out)) before after writing
      go good h = subst (λ (l : List ℕ). Answers (fitting l 0 out) before after writing) w.is a
      go (refused n p) h = absurd (ok_not_err h)

-- A file's numbers, put as bytes.
module _ {numbers bytes : List ℕ} (f : Filed numbers bytes) (size : ℕ) (is : size ≡ length (each number_bytes numbers)) where
  encoded : each number_bytes numbers ≡ encode f.ms
  unfolding encode
  encoded = ap (each number_bytes) f.is

  pub too_long : 65535 < size → (out : ℕ) (before : List ℕ) → Answers (shelving f.ms out) before before (Err (refusal_at 1 0))
  too_long l out before =
      let e : length (each number_bytes numbers) ≡ length (encode f.ms) = ap length encoded in
      rw (lt-leb (length (encode f.ms)) 65535 (omega arith)) (record { is = refl; out = refl })

  pub puttable : size ≤ 65535 → All Small numbers × Room (each number_bytes numbers) bytes 0
  puttable l =
      let room : min (2 * length numbers) 65535 ≤ length bytes = f.room in
      let two : length (each number_bytes numbers) ≤ 2 * length numbers = twice numbers in
      (rw f.is (file-small f.ms f.within), record { fits = omega arith })

  pub whole : size ≤ 65535 → (after : List ℕ) (next : ℕ) → Put (each number_bytes numbers) bytes 0 after next → Whole (take next after)
  whole l after next p =
      let e : length (each number_bytes numbers) ≡ length (encode f.ms) = ap length encoded in
      record {
        ms = f.ms;
        within = record { modules = f.within; bytes = omega arith };
        is = ap (take next) p.holds ∙ take_at (each number_bytes numbers) (drop next bytes) next (sym (p.place ∙ plain)) ∙ encoded;
      }
    where
      plain : 0 + length (each number_bytes numbers) ≡ length (each number_bytes numbers)
      plain = omega arith

  pub shelved : size ≤ 65535 → (out : ℕ) (before after : List ℕ) (r : Result ℕ Refusal)
      → Answers (if_good (file_verdict f.ms) (fitting (encode f.ms) 0 out)) before after r → Answers (shelving f.ms out) before after r
  shelved l out before after r a =
      let e : length (each number_bytes numbers) ≡ length (encode f.ms) = ap length encoded in
      rw (le-leb (length (encode f.ms)) 65535 (omega arith)) a

  -- As the file is delivered.
  pub shelved-whole : size ≤ 65535 → (held : List ℕ) (next : ℕ) → Put (each number_bytes numbers) bytes 0 held next → (out : ℕ) (before after : List ℕ) (r : Result ℕ Refusal)
      → ((w : Whole (take next held)) → Answers (if_good (file_verdict w.ms) (fitting (encode w.ms) 0 out)) before after r)
      → Answers (shelving f.ms out) before after r
  unfolding whole
  shelved-whole l held next p out before after r h = shelved l out before after r (h (whole l held next p))

-- What was read.
pub record Was (text numbers : List ℕ) (count : ℕ) : Type 0 where
  pub ms : List ListedModule
  pub is : reading text ≡ answer ms
  pub numbers-are : take count numbers ≡ file_numbers (numbered ms)
  pub few : count ≤ length numbers

pub was : {text numbers : List ℕ} {count : ℕ} → Reads text numbers (Ok count) → Was text numbers count
was {text} {numbers} {count} h = go (reading text) refl h.right
  where
    go : (d : Decision (List ListedModule)) → reading text ≡ d → ReadAs d numbers (Ok count) → Was text numbers count
    go (refusal number place) e (a, some) = cc
    go (answer ms) e (n, is, numbers-are, few) =
        let same : n ≡ count = cc in
        record { ms = ms; is = e; numbers-are = rw same at numbers-are; few = omega arith }

pub read-refused : {text numbers : List ℕ} {number place : ℕ} → Reads text numbers (Err (refusal_at number place)) → (out : ℕ) (before : List ℕ)
    → Answers (after_reading text out) before before (Err (refusal_at number place))
read-refused {text} {numbers} {number} {place} h out before = go (reading text) refl h.right
  where
    go : (d : Decision (List ListedModule)) → reading text ≡ d → ReadAs d numbers (Err (refusal_at number place))
        → Answers (on_listed d (λ ms. shelving (numbered ms) out)) before before (Err (refusal_at number place))
    go (refusal number' place') e (a, some) =
        let same : refusal_at number place ≡ refusal_at number' place' = cc in
        let n : number ≡ number' = ap (λ r. r.number) same in
        let p : place ≡ place' = ap (λ r. r.place) same in
        record { is = rw (n, p); out = refl }
    go (answer ms) e (n, is, are, few) = absurd cc

module _ {text numbers bytes : List ℕ} {count : ℕ} (h : Ready text (Ok count) numbers bytes) where
  pub filed : Filed (take count numbers) bytes
  filed =
      let w : Was text numbers count = was h.reads in
      let few : count ≤ length numbers = w.few in
      let short : length (take count numbers) ≡ count = length-take-le count numbers few in
      let room : min (2 * length numbers) 65535 ≤ length bytes = h.room in
      let most : length numbers < 4194304 = h.few in
      record {
        ms = numbered w.ms;
        within = numbered_within w.ms (answered-fits text w.ms w.is);
        is = w.numbers-are;
        room = omega arith;
        few = omega arith;
      }

  pub answered : (out : ℕ) (before after : List ℕ) (r' : Result ℕ Refusal) → Answers (shelving filed.ms out) before after r'
      → Answers (after_reading text out) before after r'
  unfolding filed
  answered out before after r' a =
      let w : Was text numbers count = was h.reads in
      rw w.is a
