-- Bytes that spell numbers are the bytes of these numbers, and no number is above 16,383.
use Rattle.std.specs.Prelude.{ℕ, zero, suc, ◌+◌, ◌*◌, ◌-◌, ◌/◌, ◌%◌, ◌<◌, ◌≡◌, refl, List, [], ◌∷◌, take, get_or}
use Rattle.std.proofs.Common.{ap, ◌∙◌, arith}
use Rattle.meaning.specs.Lists.{All, none as All-none, more}
use Rattle.meaning.specs.Layout.{each, number_bytes}
use Rattle.meaning.specs.Ceilings.{Bytes, Small}
use Rattle.laws.specs.Written.{bytes-of-low, bytes-of-high}
use Rattle.read_parts.specs.Spelled.{Spells, none, short, long}

-- Every element of a slice of bytes is a byte.
pub bytes-all : (bytes : List ℕ) → ((i : ℕ) → get_or bytes i 0 < 256) → Bytes bytes
bytes-all [] h = All-none
bytes-all (b ∷ bytes) h = more (h 0) (bytes-all bytes (λ i. h (suc i)))

pub bytes_take : (n : ℕ) {bytes : List ℕ} → Bytes bytes → Bytes (take n bytes)
bytes_take zero h = All-none
bytes_take (suc n) All-none = All-none
bytes_take (suc n) (more b h) = more b (bytes_take n h)

pub spells-bytes : {bytes numbers : List ℕ} → Spells bytes numbers → Bytes bytes → bytes ≡ each number_bytes numbers
unfolding each
spells-bytes none h = refl
spells-bytes (short {b} low s) (more byte h) = rw (bytes-of-low b low) (ap (λ (t : List ℕ). b ∷ t) (spells-bytes s h))
spells-bytes (long {a} {b} high some low s) (more byte (more byte' h)) =
    let n : ℕ = a - 128 + 128 * b in
    let first : 128 + n % 128 ≡ a = omega arith in
    let second : n / 128 ≡ b = omega arith in
    let two : number_bytes n ≡ a ∷ b ∷ [] = bytes-of-high n (omega arith) ∙ rw (first, second) in
    rw two (ap (λ (t : List ℕ). a ∷ b ∷ t) (spells-bytes s h))

pub spells-small : {bytes numbers : List ℕ} → Spells bytes numbers → Bytes bytes → All Small numbers
spells-small none h = All-none
spells-small (short {b} low s) (more byte h) = let small : Small b = omega arith in more small (spells-small s h)
spells-small (long {a} {b} high some low s) (more byte (more byte' h)) =
    let small : Small (a - 128 + 128 * b) = omega arith in
    more small (spells-small s h)
