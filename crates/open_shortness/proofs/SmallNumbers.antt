-- Where no two bytes of a file could be a number of 512 or more, the file has none.
use Prim.Native.Nat.{ℕ, zero, suc, ◌+◌, ◌*◌, ◌-◌, ◌≤◌, ◌<◌}
use mathlib.Core.Path.{◌≡◌}
use mathlib.Core.List.{List, ◌∷◌}
use native.Mathlib.Decide.{dec_lt}
use native.Mathlib.Omega.{arith}
use lib.ListN.{length, get_or}
use Rattle.read_parts.specs.Spelled.{Spells, none, short, long}
use Rattle.read_file.specs.Held.{holds_spelled}
use Rattle.open_shortness.specs.Shortness.{Short}

-- Two bytes among the first n, the first of them 128 or more, are no number of 512 or more, whether one begins there or not.
pub record Low (bytes : List ℕ) (n : ℕ) : Type 0 where
  pub low : (j : ℕ) → suc j < n → 128 ≤ get_or bytes j 0 → get_or bytes j 0 - 128 + 128 * get_or bytes (suc j) 0 < 512

low-less : {bytes : List ℕ} {n : ℕ} (most : ℕ) → most ≤ n → Low bytes n → Low bytes most
low-less most few l = record { low = λ j inside. l.low j (omega arith) }

-- One byte more.
low-more :
    {bytes : List ℕ} (n : ℕ) → 1 ≤ n
    → (128 ≤ get_or bytes (n - 1) 0 → get_or bytes (n - 1) 0 - 128 + 128 * get_or bytes n 0 < 512)
    → Low bytes n
    → Low bytes (n + 1)
low-more {bytes} n some last l = record { low = λ j inside. at j (omega arith) (dec_lt (suc j) n) }
  where
    at : (j : ℕ) → suc j ≤ n → Dec (suc j < n) → 128 ≤ get_or bytes j 0 → get_or bytes j 0 - 128 + 128 * get_or bytes (suc j) 0 < 512
    at j few (yes earlier) = l.low j earlier
    at j few (no none-later) =
        let before : n - 1 ≡ j = omega arith in
        let here : n ≡ suc j = omega arith in
        rw (before, here) at last

behind : {b : ℕ} {bytes : List ℕ} {n : ℕ} → Low (b ∷ bytes) (suc n) → Low bytes n
behind l = record { low = λ j inside. l.low (suc j) (omega arith) }

spelled-below : {bytes numbers : List ℕ} → Spells bytes numbers → Low bytes (length bytes) → (i : ℕ) → get_or numbers i 0 < 512
spelled-below none l i = omega arith
spelled-below (short small s) l zero = omega (arith, small)
spelled-below (short small s) l (suc i) = spelled-below s (behind l) i
spelled-below (long high some small s) l zero = l.low 0 (omega arith) high
spelled-below (long high some small s) l (suc i) = spelled-below s (behind (behind l)) i

-- The bytes in front of place i are passed, and where `most` is at most 64 no two of them are a number of 512 or more.
pub record Passed (file : List ℕ) (most i : ℕ) : Type 0 where
  pub some : 1 ≤ i
  pub few : length file ≤ 1024
  pub low : most ≤ 64 → Low file i

pub passed_first : {file : List ℕ} → length file ≤ 1024 → Passed file 0 1
passed_first few = record { some = omega arith; few = few; low = λ light. record { low = λ j inside. absurd (omega arith) } }

-- One byte more, with its weight; the larger of the weights stays.
pub passed-more :
    {file : List ℕ} {most i here next : ℕ}
    → Passed file most i
    → get_or file (i - 1) 0 < 256
    → (here ≤ 64 → 128 ≤ get_or file (i - 1) 0 → get_or file i 0 < 4)
    → most ≤ next
    → here ≤ next
    → Passed file next (i + 1)
passed-more {i = i} p byte small kept counted =
    record {
      some = omega arith;
      few = p.few;
      low =
          λ light.
          low-more i p.some (λ high. omega (arith, small (omega (arith, counted)) high)) (p.low (omega (arith, kept)));
    }

-- At the end, with none above 64.
pub passed-all : {file : List ℕ} {most i : ℕ} → Passed file most i → length file ≤ i → most ≤ 64 → Short file
passed-all {file} p end light =
    record {
      few = p.few;
      small = λ ms reads. record { below = spelled-below (holds_spelled file ms reads) (low-less (length file) end (p.low light)) };
    }
