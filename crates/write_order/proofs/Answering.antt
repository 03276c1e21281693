-- A writer's answers case by case: 23 outside the widths, 22 where the buffer is too short, else the file.
use Rattle.std.specs.Prelude.{Result, Ok, Err}
use Rattle.refusals.specs.Refused.{refusal_at}
use Rattle.refusals.specs.declared.Refusal.{Refusal}
use Prim.Native.Nat.{ℕ, ◌<◌, ◌≤◌}
use native.Mathlib.Omega.{arith}
use mathlib.Core.Path.{◌≡◌, refl, ap}
use mathlib.Core.List.{List}
use lib.ListN.{length, take}
use borrow.Author.Tests.{le-leb, lt-leb}
use Rattle.meaning.specs.Syntax.{Module}
use Rattle.meaning.specs.Layout.{encode}
use Rattle.meaning.specs.Calls.{writing, fitting}
use Rattle.bytes_out.specs.Filled.{Filled}
use Rattle.answers.specs.Answers.{Answers}
use Rattle.bytes_out.specs.Puts.{take-front}

module _ (modules : ℕ → List Module) (width : ℕ) (before : List ℕ) where
  pub answers-narrow : width < 1 → Answers (writing modules width (length before)) before before (Err (refusal_at 23 0))
  unfolding writing
  answers-narrow low = rw (lt-leb 1 width low) (record { is = refl; out = refl })

  pub answers-wide : 64 < width → Answers (writing modules width (length before)) before before (Err (refusal_at 23 0))
  unfolding writing
  answers-wide high = rw (le-leb 1 width (omega arith), lt-leb width 64 high) (record { is = refl; out = refl })

  -- From width 1 to 64 the room in the buffer decides.
  pub writing-fitting : 1 ≤ width → width ≤ 64
      → writing modules width (length before) ≡ fitting (encode (modules width)) 0 (length before)
  unfolding writing
  writing-fitting some most = rw (le-leb 1 width some, le-leb width 64 most)

module _ (bytes before : List ℕ) where
  pub answers-short : length before < length bytes → Answers (fitting bytes 0 (length before)) before before (Err (refusal_at 22 0))
  answers-short short = rw (lt-leb (length bytes) (length before) short) (record { is = refl; out = refl })

  pub answers-file : {after : List ℕ} {count : ℕ} → length bytes ≤ length before → Filled bytes before after count
      → Answers (fitting bytes 0 (length before)) before after (Ok count)
  answers-file room filled =
      rw (le-leb (length bytes) (length before) room)
      (record { is = ap Ok filled.size; out = rw (← filled.size) filled.holds })

  -- Bytes that stand at the front of another list are answered from there.
  pub answers-laid : {list laid after : List ℕ} {count : ℕ} {result : Result ℕ Refusal} → Filled bytes list laid count
      → Answers (fitting (take count laid) 0 (length before)) before after result
      → Answers (fitting bytes 0 (length before)) before after result
  answers-laid filled answers = rw (← take-front filled) answers
