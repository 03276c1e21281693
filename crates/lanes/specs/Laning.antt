-- What is packed stands in the lanes, and a byte of a word has the lanes of eight rows.
use Rattle.std.specs.Prelude.{ℕ, zero, suc, ◌+◌, ◌-◌, ◌/◌, ◌%◌, ◌^◌, ◌<◌, List, [], ◌∷◌, ◌≡◌, refl, length, get_or}
use Rattle.std.proofs.Common.{sym, ap, ◌∙◌, arith, shr-shr}
use Rattle.std.proofs.Math.Pow.{field, mod-mod-pow}
use Rattle.meaning.specs.Values.{Val, un, value}
use Rattle.lanes.specs.Bits.{set, bit}
use Rattle.lanes.specs.Lanes.{surely, maybe, Lane}
use Rattle.lanes.specs.Words.{bit_word}
use Rattle.lanes.specs.Rows.{column, Packed}
use Rattle.lanes.specs.Groups.{length-column}

column-at : (j : ℕ) (rows : List (List ℕ)) (i : ℕ) → i < length rows → get_or (column j rows) i un ≡ value (get_or (get_or rows i []) j 0)
column-at j [] i h = absurd (omega arith)
column-at j (row ∷ rows) zero h = refl
column-at j (row ∷ rows) (suc i) h = column-at j rows i (omega arith)

-- The value of net j in row i.
pub packed-lane :
    {rows : List (List ℕ)} {n : ℕ} {low high : List ℕ}
    → Packed surely rows n low
    → Packed maybe rows n high
    → (j : ℕ)
    → j < n
    → (i : ℕ)
    → i < length rows
    → Lane i (get_or low j 0) (get_or high j 0) (value (get_or (get_or rows i []) j 0))
packed-lane {rows} l h j in_nets i in_rows =
    let long : i < length (column j rows) = omega (arith, length-column j rows) in
    record {
      low-is = ap (bit i) (l.at j in_nets) ∙ bit_word surely (column j rows) i long ∙ ap surely (column-at j rows i in_rows);
      high_is = ap (bit i) (h.at j in_nets) ∙ bit_word maybe (column j rows) i long ∙ ap maybe (column-at j rows i in_rows);
    }

-- A digit of the byte from place s on.
pub bit_byte : (s r w : ℕ) → r < 8 → bit r (w / 2 ^ s % 256) ≡ bit (s + r) w
unfolding bit
bit_byte s r w h =
    let n = w / 2 ^ s in
    let width : (8 - suc r) + 1 + r ≡ 8 = omega arith in
    ap (λ (k : ℕ). set (n % 2 ^ k / 2 ^ r % 2)) (sym width)
    ∙ ap (λ (k : ℕ). set (k % 2)) (field n ((8 - suc r) + 1) r)
    ∙ ap set (mod-mod-pow (n / 2 ^ r) (8 - suc r) 1)
    ∙ ap (λ (k : ℕ). set (k % 2)) (shr-shr w s r)

pub lane_byte : (s low high : ℕ) {r : ℕ} {v : Val} → r < 8 → Lane (s + r) low high v → Lane r (low / 2 ^ s % 256) (high / 2 ^ s % 256) v
lane_byte s low high {r} h l = record { low-is = bit_byte s r low h ∙ l.low-is; high_is = bit_byte s r high h ∙ l.high_is }
