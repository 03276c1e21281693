-- Lists of zeros to make a file ready in, with its numbers beside the image: short ones for a short file, and long ones for any.
use Rattle.std.specs.Prelude.{ℕ, List, replicate}
use Rattle.std.proofs.Common.{arith}
use Rattle.std.proofs.lemmas.List.{length-replicate}
use Rattle.meaning.specs.Reading.{most_modules}
use Rattle.meaning.specs.Ceilings.{Bytes}
use Rattle.open_shortness.specs.Shortness.{Short}
use Rattle.open_file.specs.Spaces.{Clear, short-space, any-space}
use Rattle.open_beside.specs.Beside.{SpaceBeside}

-- Lists to work in, beside tables by position of zeros and a place more than there are modules.
abbrev pub Workable : (file numbers image first slots : List ℕ) → Type 0
Workable file numbers image first slots =
    let by_position = replicate {A = ℕ} most_modules 0 in
    SpaceBeside file numbers (replicate 129 0) image by_position by_position by_position by_position by_position first slots

pub beside : {file : List ℕ} (entries bound : ℕ) → Clear file entries bound
    → Workable file (replicate entries 0) (replicate entries 0) (replicate bound 0) (replicate bound 0)
beside entries bound clear =
    record { space = clear; numbers_long = clear.image_long; offsets_long = omega (arith, length-replicate {A = ℕ} 129 0) }

pub short-beside : (file : List ℕ) → Short file → Workable file (replicate 1024 0) (replicate 1024 0) (replicate 512 0) (replicate 512 0)
short-beside file short = beside 1024 512 (short-space file short)

pub any-beside : (file : List ℕ) → Bytes file → Workable file (replicate 65535 0) (replicate 65535 0) (replicate 16384 0) (replicate 16384 0)
any-beside file bytes = beside 65535 16384 (any-space file bytes)
