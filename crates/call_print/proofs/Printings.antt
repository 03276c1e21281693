-- What a file that was made ready, or refused, says of its printed text.
use Rattle.std.specs.Prelude.{Result, Err}
use Rattle.refusals.specs.Refused.{refusal_at}
use Rattle.refusals.specs.declared.Refusal.{Refusal}
use Prim.Native.Nat.{ℕ}
use mathlib.Core.Path.{◌≡◌, refl}
use mathlib.Core.List.{List}
use lib.ListN.{length}
use Rattle.meaning.specs.Verdict.{refused, verdict}
use Rattle.meaning.specs.ListPrint.{printing_of, list_printing}
use Rattle.answers.specs.Answers.{Answers}
use Rattle.open_file.specs.Opening.{asks, refused-ends}
use Rattle.open_beside.specs.Beside.{OpenedBeside}

-- A refusal of 1 to 17 leaves the buffer as it is.
pub file-refused : (file out : List ℕ) {number place : ℕ} → verdict file ≡ refused number place
    → Answers (list_printing file (length out)) out out (Err (refusal_at number place))
unfolding list_printing
file-refused file out {number} {place} e =
    let ends = refused-ends file number place e (printing_of (length out)) in
    rw ends (record { is = refl; out = refl })

pub printed : {file : List ℕ} {modules count : ℕ} {numbers offsets image starts own nets sizes rooms : List ℕ}
    → (o : OpenedBeside file modules count numbers offsets image starts own nets sizes rooms) (out : List ℕ) {after : List ℕ} {result : Result ℕ Refusal}
    → Answers (printing_of (length out) o.opened.ms) out after result
    → Answers (list_printing file (length out)) out after result
unfolding list_printing
printed o out a = let same = asks o.opened (printing_of (length out)) in rw same a
