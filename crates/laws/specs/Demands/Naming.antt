-- What the rules name for a call on a file is what the call comes to, and nothing else.
use Rattle.std.specs.Prelude.{ℕ, ◌≡◌}
use Rattle.std.proofs.Common.{arith, sym, ap, ◌∙◌}
use Rattle.std.proofs.Math.Path.{refl}
use mathlib.Core.List.{List}
use Rattle.meaning.specs.Syntax.{Module}
use Rattle.meaning.specs.Reading.{File, holds, fails, read}
use Rattle.meaning.specs.Ceilings.{Bytes, Encodes}
use Rattle.meaning.specs.Verdict.{Verdict, good, refused, file_verdict, verdict_of, verdict}
use Rattle.meaning.specs.Rules.{Outcome, all_kept}
use Rattle.meaning.specs.Calls.{Decision, refusal, answer, if_good, on_read, on_file, evaluation, counting, flattening}
use Rattle.meaning.specs.Rows.{rows_evaluation}
use Rattle.meaning.specs.CallRules.{Call, to_check, to_evaluate, to_count, to_flatten, to_rows, Lent, came, comes_to, call_rules, RulesName, bad_file, from_call}
use Rattle.laws.specs.Exactness.{exactness}
use Rattle.laws.specs.RoundTrip.{encodes-reads, equal_files}
use Rattle.laws.specs.Outcomes.{outcome-unique}
use Rattle.laws.specs.Refusals.{verdict-outcome}
use Rattle.laws.specs.RefusedExactly.{refused_exactly}
use Rattle.laws.specs.CallOutcomes.{evaluation-outcome, counting-outcome, flattening-outcome, rows-outcome}

-- A file that breaks no rule is good.
encodes-good : {file : List ℕ} {ms : List Module} → Encodes file ms → file_verdict ms ≡ good → verdict file ≡ good
unfolding verdict
encodes-good e g = ap verdict_of (encodes-reads e) ∙ g

-- By the verdict on a file: its refusal is named, or what comes of the call's own rules.
module _ {R : Type 0} {file : List ℕ} (bytes : Bytes file) (c : Call) (lent : Lent) where
  named-on-file :
      (ask : List Module → Decision R)
      → ((ms : List Module) → Outcome (call_rules c lent ms) (came (ask ms)))
      → RulesName file c lent (came (on_file file ask))
  unfolding on_file verdict
  named-on-file ask own = reading (read file) refl
    where
      checking : (ms : List Module) → read file ≡ holds ms → (v : Verdict) → file_verdict ms ≡ v → RulesName file c lent (came (if_good v (ask ms)))
      checking ms reads good e = from_call ms (exactness file bytes ms reads) ((verdict-outcome ms good).0 e) (own ms)
      checking ms reads (refused n p) e = bad_file ((refused_exactly file bytes n p).0 (ap verdict_of reads ∙ e))

      reading : (f : File) → read file ≡ f → RulesName file c lent (came (on_read f ask))
      reading (holds ms) e = checking ms e (file_verdict ms) refl
      reading (fails n p) e = bad_file ((refused_exactly file bytes n p).0 (ap verdict_of e))

-- The check asks for nothing more.
abbrev nothing_more : List Module → Decision (Unit {0})
nothing_more ms = answer tt

verdict-came : (f : File) → verdict_of f ≡ came (on_read f nothing_more)
verdict-came (holds ms) = go (file_verdict ms)
  where
    go : (v : Verdict) → v ≡ came (if_good v (nothing_more ms))
    go good = refl
    go (refused n p) = refl
verdict-came (fails n p) = refl

pub comes_to-named : (file : List ℕ) → Bytes file → (c : Call) (lent : Lent) → RulesName file c lent (comes_to file c lent)
unfolding comes_to evaluation counting flattening rows_evaluation call_rules verdict on_file
comes_to-named file bytes to_check lent =
    rw (verdict-came (read file)) (named-on-file bytes to_check lent nothing_more (λ ms. all_kept))
comes_to-named file bytes (to_evaluate number values) lent =
    named-on-file bytes (to_evaluate number values) lent _ (λ ms. evaluation-outcome ms lent number values)
comes_to-named file bytes (to_count number) lent = named-on-file bytes (to_count number) lent _ (λ ms. counting-outcome ms lent number)
comes_to-named file bytes (to_flatten number) lent =
    named-on-file bytes (to_flatten number) lent _ (λ ms. flattening-outcome ms lent number)
comes_to-named file bytes (to_rows number rows values) lent =
    named-on-file bytes (to_rows number rows values) lent _ (λ ms. rows-outcome ms lent number rows values)

never : {v : Verdict} {n p : ℕ} → v ≡ refused n p → v ≡ good → ⊥
never h k = let z : ◌≡◌ {A = ℕ} 0 1 = cc in omega arith

pub named-once : {file : List ℕ} {c : Call} {lent : Lent} {v w : Verdict} → Bytes file → RulesName file c lent v → RulesName file c lent w → v ≡ w
named-once {file} bytes (bad_file {number} {place} r) (bad_file {number = n} {place = p} s) =
    sym ((refused_exactly file bytes number place).1 r) ∙ (refused_exactly file bytes n p).1 s
named-once {file} bytes (bad_file {number} {place} r) (from_call ms e g o) =
    absurd (never ((refused_exactly file bytes number place).1 r) (encodes-good e ((verdict-outcome ms good).1 g)))
named-once {file} bytes (from_call ms e g o) (bad_file {number} {place} r) =
    absurd (never ((refused_exactly file bytes number place).1 r) (encodes-good e ((verdict-outcome ms good).1 g)))
named-once {file} {c} {lent} {v} {w} bytes (from_call ms e g o) (from_call ns f h q) =
    let same : ms ≡ ns = equal_files ms ns e.within f.within (e.encoded ∙ sym f.encoded) in
    outcome-unique o (rw (← same) at q)

-- A call that came to a refusal is that refusal; and the refusal of a file is that of every call on it.
pub refused-came : {R : Type 0} (d : Decision R) {n p : ℕ} → came d ≡ refused n p → d ≡ refusal n p
refused-came (refusal number place) h = cc
refused-came (answer r) h = absurd (never h refl)

pub refused-first :
    {R : Type 0} (file : List ℕ) {n p : ℕ} → verdict file ≡ refused n p → (ask : List Module → Decision R) → came (on_file file ask) ≡ refused n p
unfolding on_file verdict
refused-first {R} file {n} {p} h ask = reading (read file) h
  where
    checking : (v : Verdict) (next : Decision R) → v ≡ refused n p → came (if_good v next) ≡ refused n p
    checking good next h = absurd (never h refl)
    checking (refused n p) next h = h

    reading : (f : File) → verdict_of f ≡ refused n p → came (on_read f ask) ≡ refused n p
    reading (holds ms) h = checking (file_verdict ms) (ask ms) h
    reading (fails n p) h = h
