-- The binary digits of a number, and what the bit operations do at each.
use Rattle.std.specs.Prelude.{ℕ, zero, suc, ◌+◌, ◌-◌, ◌/◌, ◌%◌, ◌^◌, ◌<◌, Bool, true, false, not, ◌&&◌, ◌||◌, ◌≡◌, refl, eqb}
use Rattle.std.proofs.Common.{sym, ap, ◌∙◌, mod-lt, zero-lt-suc, arith, add-one}
use Rattle.std.proofs.Math.Nat.{zero-div}
use Rattle.std.proofs.Math.Pow.{ones_split, ones_lt, high, low}
use Rattle.std.specs.Int.Bits.{bit_and, bit_or, bit_xor}
use Rattle.std.proofs.lemmas.Nat.{and_shr, and_mod, or_shr, or_mod, xor_shr, xor_mod}

-- Whether a digit is 1, and the digit at a place.
abbrev pub set : ℕ → Bool
set d = eqb d 1

unfoldable pub bit : ℕ → ℕ → Bool
bit i w = set (w / 2 ^ i % 2)

digit_and : (x y : ℕ) → x < 2 → y < 2 → set (bit_and x y) ≡ set x && set y
digit_and zero y p q = refl
digit_and (suc zero) zero p q = refl
digit_and (suc zero) (suc zero) p q = refl
digit_and (suc zero) (suc (suc y)) p q = absurd (omega arith)
digit_and (suc (suc x)) y p q = absurd (omega arith)

digit_or : (x y : ℕ) → x < 2 → y < 2 → set (bit_or x y) ≡ set x || set y
digit_or zero y p q = refl
digit_or (suc zero) zero p q = refl
digit_or (suc zero) (suc zero) p q = refl
digit_or (suc zero) (suc (suc y)) p q = absurd (omega arith)
digit_or (suc (suc x)) y p q = absurd (omega arith)

digit-flip : (x : ℕ) → x < 2 → set (bit_xor x 1) ≡ not (set x)
digit-flip zero p = refl
digit-flip (suc zero) p = refl
digit-flip (suc (suc x)) p = absurd (omega arith)

small : (n : ℕ) → n % 2 < 2
small n = mod-lt n (zero-lt-suc 1)

pub bit-and : (i a b : ℕ) → bit i (bit_and a b) ≡ bit i a && bit i b
unfolding bit
bit-and i a b =
    ap (λ (n : ℕ). set (n % 2)) (and_shr a b i)
    ∙ ap set (and_mod (a / 2 ^ i) (b / 2 ^ i) 1)
    ∙ digit_and (a / 2 ^ i % 2) (b / 2 ^ i % 2) (small (a / 2 ^ i)) (small (b / 2 ^ i))

pub bit-or : (i a b : ℕ) → bit i (bit_or a b) ≡ bit i a || bit i b
unfolding bit
bit-or i a b =
    ap (λ (n : ℕ). set (n % 2)) (or_shr a b i)
    ∙ ap set (or_mod (a / 2 ^ i) (b / 2 ^ i) 1)
    ∙ digit_or (a / 2 ^ i % 2) (b / 2 ^ i % 2) (small (a / 2 ^ i)) (small (b / 2 ^ i))

-- A word of ones: each digit below its width is 1.
ones-digit : (j i : ℕ) → (2 ^ (suc j + i) - 1) / 2 ^ i % 2 ≡ 1
ones-digit j i =
    ap (λ (n : ℕ). n / 2 ^ i % 2) (ones_split (suc j) i)
    ∙ ap (λ (n : ℕ). n % 2) (high (2 ^ suc j - 1) i (ones_lt i))
    ∙ ap (λ (k : ℕ). (2 ^ k - 1) % 2) (sym (add-one j))
    ∙ ap (λ (n : ℕ). n % 2) (ones_split j 1)
    ∙ low (2 ^ j - 1) 1 (ones_lt 1)

-- So the digits of a number against ones are turned round.
pub bit-flip : (width i a : ℕ) → i < width → bit i (bit_xor a (2 ^ width - 1)) ≡ not (bit i a)
unfolding bit
bit-flip width i a h =
    let d = a / 2 ^ i in
    let w : suc (width - suc i) + i ≡ width = omega arith in
    ap (λ (n : ℕ). set (n % 2)) (xor_shr a (2 ^ width - 1) i)
    ∙ ap set (xor_mod d ((2 ^ width - 1) / 2 ^ i) 1)
    ∙ ap (λ (n : ℕ). set (bit_xor (d % 2) n)) (ap (λ (n : ℕ). (2 ^ n - 1) / 2 ^ i % 2) (sym w) ∙ ones-digit (width - suc i) i)
    ∙ digit-flip (d % 2) (small d)

pub bit-ones : (width i : ℕ) → i < width → bit i (2 ^ width - 1) ≡ true
unfolding bit
bit-ones width i h =
    let w : suc (width - suc i) + i ≡ width = omega arith in
    ap (λ (n : ℕ). set ((2 ^ n - 1) / 2 ^ i % 2)) (sym w) ∙ ap set (ones-digit (width - suc i) i)

pub bit-zero : (i : ℕ) → bit i 0 ≡ false
unfolding bit
bit-zero i = ap (λ (n : ℕ). set (n % 2)) (zero-div (2 ^ i))
