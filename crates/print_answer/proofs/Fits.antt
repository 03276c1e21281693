-- The text of a file's numbers, and the room that it needs.
use Rattle.std.specs.Prelude.{Ok}
use Prim.Native.Nat.{ℕ, ◌*◌, ◌≤◌}
use mathlib.Core.Path.{◌≡◌}
use mathlib.Core.List.{List}
use native.Mathlib.Omega.{arith}
use lib.ListN.{length}
use Rattle.meaning.specs.ListPrint.{list_text, printing_of}
use Rattle.laws.specs.Texts.PrintLong.{long-text}
use Rattle.answers.specs.Answers.{Answers}
use Rattle.bytes_out.specs.Filled.{Put}
use Rattle.bytes_out.specs.Puts.{put_front}
use Rattle.write_order.proofs.Answering.{answers-file}
use Rattle.print_lines.specs.Standing.{FileTold}
use Rattle.ndl_answer.specs.Numbered.{Numbered}

module _ {numbers : List ℕ} {size : ℕ} (t : Numbered numbers size) (out : List ℕ) where
  size-most : size ≤ 65535
  size-most = omega (arith, t.sized, t.within.bytes)

  -- A list of so many bytes has room for the text.
  pub text-fits : 6 * size ≤ length out → length (list_text t.ms) ≤ length out
  text-fits room = omega (arith, t.sized, long-text t.ms t.within.modules)

  abbrev pub file-told : 6 * size ≤ length out → FileTold numbers out
  file-told room = record { ms = t.ms; is = t.is; within = t.within.modules; room = record { fits = omega (arith, text-fits room) } }

  -- In the longest list that a file can need.
  pub longest_fits : length out ≡ 393210 → 6 * size ≤ length out
  longest_fits long = omega (arith, size-most)

  abbrev pub told_in_longest : length out ≡ 393210 → FileTold numbers out
  told_in_longest all = file-told (longest_fits all)

  -- Written at once.
  pub told_straight : {after : List ℕ} {count : ℕ} → 6 * size ≤ length out → Put (list_text t.ms) out 0 after count
      → Answers (printing_of (length out) t.ms) out after (Ok count)
  told_straight room put = answers-file (list_text t.ms) out (text-fits room) (put_front put)
