-- Two accepted files have equal text only if they are equal, under one list of good names.
use Rattle.std.specs.Prelude.{ℕ, ◌≡◌, List, ◌++◌, length}
use Rattle.std.proofs.Common.{sym, ap, ◌∙◌}
use Rattle.meaning.specs.Syntax.{Module}
use Rattle.meaning.specs.Ceilings.{Bytes, ModulesWithin}
use Rattle.meaning.specs.Layout.{encode}
use Rattle.meaning.specs.Reading.{holds, read}
use Rattle.meaning.specs.Ndl.{compile_lines, ndl_text}
use Rattle.laws.specs.Exactness.{exactness}
use Rattle.laws.specs.Ndl.Spans.{cut_word}
use Rattle.laws.specs.Ndl.Names.{GoodNames}
use Rattle.laws.specs.Ndl.Modules.{cut-modules}

pub equal-modules-by-text :
    {names : List ℕ} → GoodNames names → (ms ns : List Module) → ModulesWithin ms → ModulesWithin ns
    → ndl_text names ms ≡ ndl_text names ns → ms ≡ ns
unfolding ndl_text
equal-modules-by-text g ms ns w v same = cut-modules g ms ns w.modules v.modules (cut_word compile_lines same)

-- Of files: whatever reads, so all that are accepted.
pub equal_files_by-text :
    {names : List ℕ} → GoodNames names → (xs ys : List ℕ) → Bytes xs → Bytes ys → (ms ns : List Module)
    → read xs ≡ holds ms → read ys ≡ holds ns → ndl_text names ms ≡ ndl_text names ns → xs ≡ ys
equal_files_by-text g xs ys xs-ok ys-ok ms ns h k same =
    let one = exactness xs xs-ok ms h in
    let other = exactness ys ys-ok ns k in
    sym one.encoded
    ∙ ap encode (equal-modules-by-text g ms ns one.within.modules other.within.modules same)
    ∙ other.encoded
