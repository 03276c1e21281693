-- What counting a file's modules says of it is the check's answer.
use Rattle.std.specs.Prelude.{Result, Ok, Err}
use Rattle.refusals.specs.declared.Refusal.{Refusal}
use Prim.Native.Nat.{ℕ}
use mathlib.Core.Path.{◌≡◌, refl, sym, ap, ◌∙◌}
use mathlib.Core.List.{List}
use lib.ListN.{length}
use Rattle.meaning.specs.Reading.{File, holds, fails, read}
use Rattle.meaning.specs.Verdict.{Verdict, good, refused, file_verdict, verdict_of, verdict}
use Rattle.meaning.specs.Calls.{answer, if_good, on_read, on_file, module_count}
use Rattle.answers.specs.Contents.{found_of}
use Rattle.answers.specs.Judged.{check_of}

abbrev pub judged : Result ℕ Refusal → Result Unit Refusal
judged (Ok count) = Ok tt
judged (Err r) = Err r

counted-judged : (file : List ℕ) → judged (found_of (module_count file)) ≡ check_of (verdict file)
unfolding module_count on_file verdict
counted-judged file = go (read file)
  where
    go : (f : File) → judged (found_of (on_read f (λ ms. answer (length ms)))) ≡ check_of (verdict_of f)
    go (holds ms) = by-verdict (file_verdict ms)
      where
        by-verdict : (v : Verdict) → judged (found_of (if_good v (answer (length ms)))) ≡ check_of v
        by-verdict good = refl
        by-verdict (refused number place) = refl
    go (fails number place) = refl

pub judges : (file : List ℕ) {counted met : Result ℕ Refusal} → counted ≡ found_of (module_count file) → counted ≡ met → judged met ≡ check_of (verdict file)
judges file is e = ap judged (sym e ∙ is) ∙ counted-judged file
