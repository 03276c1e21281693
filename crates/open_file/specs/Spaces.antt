-- Lists of zeros to work in: where they are long enough they are space for a short file, and longer ones for any file.
use Rattle.std.specs.Prelude.{ℕ, zero, suc, ◌≤◌, ◌<◌, min, ◌≡◌, List, length, get_or, replicate}
use Rattle.std.proofs.Common.{arith}
use Rattle.std.proofs.lemmas.List.{length-replicate}
use Rattle.meaning.specs.Lists.{All, none, more}
use Rattle.meaning.specs.Syntax.{Module}
use Rattle.meaning.specs.Layout.{file_numbers}
use Rattle.meaning.specs.Reading.{holds, read, most_modules, most_bytes}
use Rattle.meaning.specs.Ceilings.{Bytes, Small}
use Rattle.nets.specs.Slots.{Below}
use Rattle.read_file.specs.Held.{holds-small}
use Rattle.open_shortness.specs.Shortness.{Short}
use Rattle.open_file.specs.Prepared.{Space}

-- A list of zeros has no entry above 0.
zeros-below : (bound n : ℕ) → 0 < bound → Below bound (replicate n 0)
zeros-below bound n h = record { below = go n }
  where
    go : (n i : ℕ) → get_or (replicate n 0) i 0 < bound
    go zero i = h
    go (suc n) zero = h
    go (suc n) (suc i) = go n i

-- An entry for each byte, one for each module in the tables by position, and tables that have every number of the file as an index.
abbrev pub Clear : (file : List ℕ) (entries bound : ℕ) → Type 0
Clear file entries bound =
    let by_position = replicate {A = ℕ} most_modules 0 in
    Space file (replicate entries 0) by_position by_position by_position by_position by_position (replicate bound 0) (replicate bound 0)

clear-space :
    (file : List ℕ) (entries bound : ℕ)
    → min (length file) most_bytes ≤ entries
    → ((ms : List Module) → read file ≡ holds ms → Below bound (file_numbers ms))
    → Clear file entries bound
clear-space file entries bound long below =
    record {
      image_long = omega (arith, length-replicate {A = ℕ} entries 0);
      starts_long = many;
      names_long = many;
      nets_long = many;
      sizes_long = many;
      rooms_long = many;
      indexes = λ ms reads. record { in_first = index ms reads; in_slots = index ms reads };
      clear_first = λ x. omega (arith, (zeros-below 1 bound (omega arith)).below x);
      low_slots = zeros-below 65536 bound (omega arith);
      low_sizes = zeros-below 65536 most_modules (omega arith);
      low_rooms = zeros-below 65536 most_modules (omega arith);
    }
  where
    many : most_modules ≤ length (replicate {A = ℕ} most_modules 0)
    many = omega (arith, length-replicate {A = ℕ} most_modules 0)

    index : (ms : List Module) → read file ≡ holds ms → Below (length (replicate {A = ℕ} bound 0)) (file_numbers ms)
    index ms reads = record { below = λ i. omega (arith, (below ms reads).below i, length-replicate {A = ℕ} bound 0) }

pub short-space : (file : List ℕ) → Short file → Clear file 1024 512
short-space file short = clear-space file 1024 512 (omega (arith, short.few)) short.small

-- The numbers of any file are below 16,384.
small-below : {xs : List ℕ} → All Small xs → (i : ℕ) → get_or xs i 0 < 16384
small-below none i = omega arith
small-below (more small all) zero = omega (arith, small)
small-below (more small all) (suc i) = small-below all i

pub any-space : (file : List ℕ) → Bytes file → Clear file 65535 16384
any-space file bytes =
    clear-space file 65535 16384 (omega arith) (λ ms reads. record { below = small-below (holds-small file ms reads bytes) })
