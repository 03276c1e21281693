-- Values of one net in several rows, as a number: the first row is its lowest digit. A row in front doubles what is there.
use Rattle.std.specs.Prelude.{ℕ, zero, suc, ◌+◌, ◌*◌, ◌/◌, ◌%◌, ◌^◌, ◌≤◌, ◌<◌, Bool, true, false, List, [], ◌∷◌, ◌++◌, ◌≡◌, refl, length, get_or}
use Rattle.std.proofs.Common.{sym, ap, ◌∙◌, pow-suc, div-one, arith, shr-shr}
use Rattle.std.proofs.Math.Pow.{high, low}
use Rattle.meaning.specs.Values.{Val, un}
use Rattle.lanes.specs.Bits.{set, bit}

abbrev pub digit : Bool → ℕ
digit false = 0
digit true = 1

pub digit-small : (b : Bool) → digit b ≤ 1
digit-small false = omega arith
digit-small true = omega arith

set-digit : (b : Bool) → set (digit b) ≡ b
set-digit false = refl
set-digit true = refl

-- The lowest digit, and those above it.
pub bit-low : (a : ℕ) (b : Bool) → bit 0 (a * 2 + digit b) ≡ b
unfolding bit
bit-low a b =
    let d = digit-small b in
    ap (λ (n : ℕ). set (n % 2)) (div-one (a * 2 + digit b))
    ∙ ap set (low a 1 (omega arith))
    ∙ set-digit b

pub bit-half : (i n : ℕ) → bit (suc i) n ≡ bit i (n / 2)
unfolding bit
bit-half i n =
    let next : suc i ≡ 1 + i = omega arith in
    ap (λ (k : ℕ). set (n / 2 ^ k % 2)) next ∙ ap (λ (m : ℕ). set (m % 2)) (sym (shr-shr n 1 i))

pub bit-above : (i a : ℕ) (b : Bool) → bit (suc i) (a * 2 + digit b) ≡ bit i a
bit-above i a b =
    let d = digit-small b in
    bit-half i (a * 2 + digit b) ∙ ap (bit i) (high a 1 (omega arith))

module _ (f : Val → Bool) where
  abbrev pub word : List Val → ℕ
  word [] = 0
  word (v ∷ vs) = word vs * 2 + digit (f v)

  pub word_small : (vs : List Val) → word vs < 2 ^ length vs
  word_small [] = omega arith
  word_small (v ∷ vs) = omega (arith, word_small vs, pow-suc 2 (length vs), digit-small (f v))

  -- A lane of the word is the value in its row.
  pub bit_word : (vs : List Val) (i : ℕ) → i < length vs → bit i (word vs) ≡ f (get_or vs i un)
  bit_word [] i h = absurd (omega arith)
  bit_word (v ∷ vs) zero h = bit-low (word vs) (f v)
  bit_word (v ∷ vs) (suc i) h = bit-above i (word vs) (f v) ∙ bit_word vs i (omega arith)

  -- Rows behind others stand above them.
  pub word-append : (us vs : List Val) → word (us ++ vs) ≡ word vs * 2 ^ length us + word us
  word-append [] vs = omega arith
  word-append (u ∷ us) vs = omega (arith, word-append us vs, pow-suc 2 (length us), ap (λ (n : ℕ). word vs * n) (pow-suc 2 (length us)))
