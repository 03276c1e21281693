-- The text of a file's numbers, and the room that it needs.
use Rattle.std.specs.Prelude.{Ok}
use Prim.Native.Nat.{ℕ, ◌+◌, ◌*◌, ◌≤◌}
use mathlib.Core.Path.{◌≡◌}
use mathlib.Core.List.{List}
use native.Mathlib.Omega.{arith}
use lib.ListN.{length}
use Rattle.meaning.specs.Calls.{fitting}
use Rattle.meaning.specs.Ndl.{ndl_text}
use Rattle.laws.specs.Ndl.Long.{long-text}
use Rattle.answers.specs.Answers.{Answers}
use Rattle.bytes_out.specs.Filled.{Put}
use Rattle.bytes_out.specs.Puts.{put_front}
use Rattle.write_order.proofs.Answering.{answers-file}
use Rattle.ndl_text.specs.Standing.{FileTold}
use Rattle.ndl_answer.specs.Numbered.{Numbered}

module _ {numbers : List ℕ} {size : ℕ} (t : Numbered numbers size) (names : List ℕ) (out : List ℕ) where
  pub size-most : size ≤ 65535
  size-most = omega (arith, t.sized, t.within.bytes)

  -- A list of so many bytes has room for the text.
  pub text-fits : 8 * size + 4654 ≤ length out → length (ndl_text names t.ms) ≤ length out
  text-fits room = omega (arith, t.sized, long-text names t.ms t.within.modules)

  abbrev pub file-told : length names ≡ 128 → 8 * size + 4654 ≤ length out → FileTold names numbers out
  file-told long room =
      record { ms = t.ms; is = t.is; within = t.within.modules; long = long; room = record { fits = omega (arith, text-fits room) } }

  -- In the longest list that a file can need.
  pub longest_fits : length out ≡ 528934 → 8 * size + 4654 ≤ length out
  longest_fits long = omega (arith, size-most)

  abbrev pub told_in_longest : length names ≡ 128 → length out ≡ 528934 → FileTold names numbers out
  told_in_longest long all = file-told long (longest_fits all)

  -- Written at once.
  pub told_straight : {after : List ℕ} {count : ℕ} → 8 * size + 4654 ≤ length out → Put (ndl_text names t.ms) out 0 after count
      → Answers (fitting (ndl_text names t.ms) 0 (length out)) out after (Ok count)
  told_straight room put = answers-file (ndl_text names t.ms) out (text-fits room) (put_front put)
