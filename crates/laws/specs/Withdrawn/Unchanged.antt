-- A file that uses none of the four gates comes back byte for byte; so rewriting again changes nothing.
use Rattle.std.specs.Prelude.{ℕ, suc, ◌≡◌, refl, true, false, not, List, [], ◌∷◌, length}
use Rattle.std.proofs.Common.{sym, ap, ap₂, arith, le-leb}
use Rattle.std.proofs.lemmas.Bool.{not-true}
use Rattle.meaning.specs.Lists.{All, none, more}
use Rattle.meaning.specs.Syntax.{Occurrence, Module}
use Rattle.meaning.specs.Reading.{File, holds, fails, read, most_bytes, most_occurrences}
use Rattle.meaning.specs.Ceilings.{Bytes, ModuleWithin, Within}
use Rattle.meaning.specs.Layout.{encode}
use Rattle.meaning.specs.Limits.{net_count, most_module_nets}
use Rattle.meaning.specs.Verdict.{good, modules_verdict, sizes_verdict, file_verdict}
use Rattle.meaning.specs.Calls.{Written, on_file, fitting}
use Rattle.meaning.specs.Withdrawn.{withdrawn, any_withdrawn, withdrawn_verdict, strict_of, strict_verdict, rewrite_body, unused, rewrite_module, rewrite_file, occurrences_ok, nets_verdict, rewriting}
use Rattle.laws.specs.WellFormed.{Accepted}
use Rattle.laws.specs.Accepted.{good-accepted, accepted-good}
use Rattle.laws.specs.Exactness.{exactness}
use Rattle.laws.specs.Withdrawn.Fresh.{neither_true}
use Rattle.laws.specs.Withdrawn.Passes.{keep-good, and_then-good, strict_after}
use Rattle.laws.specs.Withdrawn.Answered.{Rewritten, new-reads}

body-unchanged : (fresh : List ℕ) (os : List Occurrence) → any_withdrawn os ≡ false → rewrite_body fresh os ≡ os
unfolding any_withdrawn rewrite_body
body-unchanged fresh [] e = refl
body-unchanged fresh (o ∷ os) e =
    let both = neither_true (withdrawn o.refers) (any_withdrawn os) e in
    rw (both.0, body-unchanged fresh os both.1)

file-unchanged : (place : ℕ) (ms : List Module) → withdrawn_verdict place ms ≡ good → rewrite_file ms ≡ ms
unfolding withdrawn_verdict rewrite_file rewrite_module
file-unchanged place [] e = refl
file-unchanged place (m ∷ ms) e =
    let both = keep-good 28 place (not (any_withdrawn m.occurrences)) _ e in
    ap₂ ◌∷◌
    (ap (λ (os : List Occurrence). record { number = m.number; inputs = m.inputs; outputs = m.outputs; occurrences = os })
    (body-unchanged (unused m) m.occurrences (not-true (any_withdrawn m.occurrences) both.0)))
    (file-unchanged (suc place) ms both.1)

few-occurrences : {ms : List Module} → All ModuleWithin ms → occurrences_ok ms ≡ true
unfolding occurrences_ok
few-occurrences none = refl
few-occurrences (more {x = m} own rest) = rw (le-leb (length m.occurrences) most_occurrences own.count) (few-occurrences rest)

few-nets : (place : ℕ) {ms : List Module} → Accepted ms → nets_verdict place ms ≡ good
unfolding nets_verdict
few-nets place Accepted.none = refl
few-nets place (Accepted.some {m = m} ok rest) = rw (le-leb (net_count m) most_module_nets ok.nets) (few-nets (suc place) rest)

-- A list of modules that is accepted and uses none of them.
same-file :
    (file : List ℕ) (ms : List Module) (out : ℕ)
    → read file ≡ holds ms
    → encode ms ≡ file
    → Within ms
    → file_verdict ms ≡ good
    → withdrawn_verdict 0 ms ≡ good
    → rewriting file out ≡ fitting file 0 out
unfolding rewriting on_file file_verdict
same-file file ms out reads encoded within accepted clean =
    let sizes = and_then-good (modules_verdict 0 ms) (sizes_verdict 0 ms) accepted in
    rw (
      reads,
      accepted,
      file-unchanged 0 ms clean,
      few-occurrences within.modules.modules,
      few-nets 0 (good-accepted ms accepted),
      sizes.1,
      le-leb (length (encode ms)) most_bytes within.bytes,
      encoded,
    )

-- A file that passes the strict check is written as it is.
pub unchanged : (file : List ℕ) → Bytes file → strict_verdict file ≡ good → (out : ℕ) → rewriting file out ≡ fitting file 0 out
unfolding strict_verdict
unchanged file bytes strict out = go (read file) refl strict
  where
    go : (f : File) → read file ≡ f → strict_of f ≡ good → rewriting file out ≡ fitting file 0 out
    go (holds ms) reads e =
        let both = and_then-good (file_verdict ms) (withdrawn_verdict 0 ms) e in
        let encodes = exactness file bytes ms reads in
        same-file file ms out reads encodes.encoded encodes.within both.0 both.1
    go (fails number place) reads e = absurd (let z : ◌≡◌ {A = ℕ} 0 1 = cc in omega arith)

-- What was rewritten is written as it is.
pub rewritten-again : {file : List ℕ} {w : Written} → Rewritten file w → (out : ℕ) → rewriting w.bytes out ≡ fitting w.bytes 0 out
rewritten-again {w = w} r out =
    same-file w.bytes (rewrite_file r.ms) out (new-reads r) (sym r.writes) r.within (accepted-good r.accepted_new) (strict_after 0 r.ms)
