-- What is printed of counters. The release that went wrong cannot be written: of value 1 the counter of width 32 yields 31 and that
-- of width 64 yields 63, of value 0 they yield 32 and 64. And the bytes of width 3.
use Rattle.std.specs.Prelude.{ℕ, ◌≡◌, refl, Bool, true, false, ◌&&◌, List, [], ◌∷◌, map, eqb, leb, length, replicate}
use Rattle.std.proofs.Math.Bool.{and-eq-true_iff}
use Rattle.std.proofs.Common.{leb-true, eqb-true}
use Rattle.meaning.specs.Lists.{All}
use Rattle.meaning.specs.Values.{known}
use Rattle.meaning.specs.Evaluation.{evaluate}
use Rattle.meaning.specs.Layout.{each, occurrence_numbers, module_numbers, file_numbers, number_bytes, encode}
use Rattle.meaning.specs.Adder.{up_from}
use Rattle.meaning.specs.Counter.{zeros_first, leading_zeros, choose, block_number, join_block, block, blocks, digits_within, digits, join_parts, last_count, counter_module, counter}
use Rattle.laws.specs.Adder.ByTest.{all-by-test}
use Rattle.laws.specs.Counter.Outputs.{CountsZeros, counter-on-known}

pub record Row : Type 0 where
  pub width : ℕ
  pub bits : List Bool
  pub zeros : ℕ

abbrev row : (width : ℕ) → List Bool → (zeros : ℕ) → Row
row width bits zeros = record { width = width; bits = bits; zeros = zeros }

abbrev pub rows : List Row
rows =
    row 32 (true ∷ replicate 31 false) 31
    ∷ row 32 (replicate 32 false) 32
    ∷ row 64 (true ∷ replicate 63 false) 63
    ∷ row 64 (replicate 64 false) 64
    ∷ []

abbrev pub Yields : Row → Type 0
Yields r = CountsZeros r.width r.zeros (evaluate (counter r.width) 32 (map known r.bits))

is_right : Row → Bool
is_right r = leb 1 r.width && (eqb (length r.bits) r.width && eqb (leading_zeros r.bits) r.zeros)

right_yields : (r : Row) → is_right r ≡ true → Yields r
unfolding is_right
right_yields r passed =
    let some = (and-eq-true_iff (leb 1 r.width) _).0 passed in
    let rest = (and-eq-true_iff (eqb (length r.bits) r.width) _).0 some.1 in
    rw (eqb-true (leading_zeros r.bits) r.zeros rest.1) at
    (counter-on-known r.width (leb-true 1 r.width some.0) r.bits (eqb-true (length r.bits) r.width rest.0))

pub rows_yield : All Yields rows
unfolding is_right leading_zeros zeros_first
rows_yield = all-by-test is_right right_yields rows refl

-- Width 3, whole, in hexadecimal, 54 bytes, as docs/COUNTER.md prints it.
pub bytes-at-width_3 : encode (counter 3)
    ≡ 0x02 ∷ 0x20 ∷ 0x03 ∷ 0x00 ∷ 0x01 ∷ 0x02 ∷ 0x02 ∷ 0x06 ∷ 0x07 ∷ 0x04 ∷ 0x01 ∷ 0x03 ∷ 0x01 ∷ 0x01 ∷ 0x00 ∷ 0x02 ∷ 0x04 ∷ 0x07
    ∷ 0x21 ∷ 0x02 ∷ 0x01 ∷ 0x02 ∷ 0x01 ∷ 0x05 ∷ 0x0A ∷ 0x02 ∷ 0x07 ∷ 0x03 ∷ 0x01 ∷ 0x06 ∷ 0x05 ∷ 0x02 ∷ 0x04 ∷ 0x05 ∷ 0x21 ∷ 0x02
    ∷ 0x00 ∷ 0x01 ∷ 0x02 ∷ 0x02 ∷ 0x03 ∷ 0x02 ∷ 0x01 ∷ 0x03 ∷ 0x0D ∷ 0x02 ∷ 0x00 ∷ 0x01 ∷ 0x01 ∷ 0x02 ∷ 0x0D ∷ 0x02 ∷ 0x01 ∷ 0x03 ∷ []
unfolding
    encode file_numbers module_numbers occurrence_numbers each number_bytes up_from choose block_number join_block block blocks digits_within
    digits join_parts last_count counter_module counter
bytes-at-width_3 = refl
