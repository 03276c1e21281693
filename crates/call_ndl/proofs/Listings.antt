-- What a file that was made ready, or refused, says of its listing.
use Rattle.std.specs.Prelude.{Result, Err}
use Rattle.refusals.specs.Refused.{refusal_at}
use Rattle.refusals.specs.declared.Refusal.{Refusal}
use Prim.Native.Nat.{ℕ}
use mathlib.Core.Path.{◌≡◌, refl, sym, ap}
use mathlib.Core.List.{List}
use lib.ListN.{length, take}
use Rattle.meaning.specs.Ceilings.{Bytes}
use Rattle.meaning.specs.Verdict.{refused, verdict}
use Rattle.meaning.specs.Ndl.{ndl_on, ndl_listing}
use Rattle.laws.specs.Exactness.{exactness}
use Rattle.answers.specs.Answers.{Answers}
use Rattle.open_file.specs.Opening.{asks, refused-ends}
use Rattle.open_beside.specs.Beside.{OpenedBeside, numbers-are}
use Rattle.ndl_answer.specs.Numbered.{Numbered}

-- A refusal of 1 to 17 leaves the buffer as it is.
pub file-refused : (file names out : List ℕ) {number place : ℕ} → verdict file ≡ refused number place
    → Answers (ndl_listing file names (length out)) out out (Err (refusal_at number place))
unfolding ndl_listing
file-refused file names out {number} {place} e =
    let ends = refused-ends file number place e (ndl_on names (length out)) in
    rw ends (record { is = refl; out = refl })

module _ {file : List ℕ} {modules count : ℕ} {numbers offsets image starts own nets sizes rooms : List ℕ}
    (o : OpenedBeside file modules count numbers offsets image starts own nets sizes rooms) where
  abbrev pub numbered : Bytes file → Numbered (take count numbers) (length file)
  numbered bytes =
      record {
        ms = o.opened.ms;
        is = numbers-are o;
        within = o.opened.held.within;
        sized = ap length (sym (exactness file bytes o.opened.ms o.opened.reads).encoded);
      }

  pub listed : (names out : List ℕ) {after : List ℕ} {result : Result ℕ Refusal} → Answers (ndl_on names (length out) o.opened.ms) out after result
      → Answers (ndl_listing file names (length out)) out after result
  unfolding ndl_listing
  listed names out a = let same = asks o.opened (ndl_on names (length out)) in rw same a
