-- What is printed of the propagate-generate adder in docs/ADDER.md: the bytes of width 1, and gates and delay at some widths.
use Rattle.std.specs.Prelude.{ℕ, ◌≡◌, refl, Bool, true, ◌&&◌, List, [], ◌∷◌, eqb}
use Rattle.std.proofs.Math.Bool.{and-eq-true_iff}
use Rattle.std.proofs.Common.{eqb-true}
use Rattle.meaning.specs.Lists.{All}
use Rattle.meaning.specs.Layout.{each, occurrence_numbers, module_numbers, file_numbers, number_bytes, encode}
use Rattle.meaning.specs.Boxlist.{assoc}
use Rattle.meaning.specs.Evaluation.{look, look_all, pairs, walk, run_module, run}
use Rattle.meaning.specs.Figures.{body_weight, gate_weight, gate_count, largest, arrivals, delay_by, delay}
use Rattle.meaning.specs.Adder.{up_from}
use Rattle.meaning.specs.FastAdder.{gate_row, leaves, p_net, ahead, chain, lookahead, fast_module, fast_adder_over, grown, spine, cut, height_from, height, steps, fast_adder}
use Rattle.laws.specs.Adder.ByTest.{all-by-test}

pub bytes-at-width_1 : encode (fast_adder 1)
    ≡ 0x04 ∷ 0x28 ∷ 0x03 ∷ 0x00 ∷ 0x02 ∷ 0x03 ∷ 0x02 ∷ 0x06 ∷ 0x01 ∷ 0x04 ∷ 0x01 ∷ 0x04 ∷ 0x09 ∷ 0x02 ∷ 0x02 ∷ 0x03 ∷ 0x01 ∷ 0x05
    ∷ 0x0A ∷ 0x02 ∷ 0x02 ∷ 0x03 ∷ 0x01 ∷ 0x01 ∷ 0x29 ∷ 0x03 ∷ 0x00 ∷ 0x04 ∷ 0x05 ∷ 0x01 ∷ 0x06 ∷ 0x09 ∷ 0x02 ∷ 0x04 ∷ 0x00 ∷ 0x29
    ∷ 0x03 ∷ 0x00 ∷ 0x02 ∷ 0x03 ∷ 0x01 ∷ 0x01 ∷ 0x01 ∷ 0x01 ∷ 0x01 ∷ 0x2A ∷ 0x03 ∷ 0x00 ∷ 0x02 ∷ 0x03 ∷ 0x2B ∷ 0x05 ∷ 0x00 ∷ 0x01
    ∷ 0x02 ∷ 0x03 ∷ 0x04 ∷ 0x01 ∷ 0x07 ∷ 0x03 ∷ 0x01 ∷ 0x05 ∷ 0x0A ∷ 0x02 ∷ 0x03 ∷ 0x02 ∷ 0x01 ∷ 0x06 ∷ 0x0B ∷ 0x03 ∷ 0x03 ∷ 0x01
    ∷ 0x00 ∷ 0x01 ∷ 0x07 ∷ 0x06 ∷ 0x03 ∷ 0x04 ∷ 0x05 ∷ 0x06 ∷ 0x2A ∷ 0x03 ∷ 0x00 ∷ 0x01 ∷ 0x02 ∷ 0x01 ∷ 0x04 ∷ 0x02 ∷ 0x01 ∷ 0x03
    ∷ 0x0A ∷ 0x02 ∷ 0x01 ∷ 0x00 ∷ 0x01 ∷ 0x04 ∷ 0x05 ∷ 0x02 ∷ 0x02 ∷ 0x03 ∷ []
unfolding
    encode file_numbers module_numbers occurrence_numbers each number_bytes up_from gate_row leaves p_net ahead chain lookahead fast_module
    fast_adder_over grown spine cut height_from height steps fast_adder
bytes-at-width_1 = refl

-- Width, gates and delay, at the widths of Table 1 in document 000, whose propagate-generate adder has 573 gates and a delay of 24 at
-- 64 bits.
abbrev pub rows : List (ℕ × ℕ × ℕ)
rows =
    (1, 5, 3)
    ∷ (2, 11, 4)
    ∷ (4, 22, 6)
    ∷ (8, 52, 8)
    ∷ (16, 108, 10)
    ∷ (25, 173, 10)
    ∷ (26, 179, 10)
    ∷ (27, 188, 10)
    ∷ (32, 224, 10)
    ∷ (64, 460, 12)
    ∷ []

pub record Agrees (row : ℕ × ℕ × ℕ) : Type 0 where
  pub gates : gate_count (fast_adder row.0) 40 ≡ row.1
  pub max_delay : delay (fast_adder row.0) 40 ≡ row.2

abbrev agrees : ℕ × ℕ × ℕ → Bool
agrees row = eqb (gate_count (fast_adder row.0) 40) row.1 && eqb (delay (fast_adder row.0) 40) row.2

agrees-both : (row : ℕ × ℕ × ℕ) → agrees row ≡ true → Agrees row
agrees-both row passed =
    let both = (and-eq-true_iff (eqb (gate_count (fast_adder row.0) 40) row.1) _).0 passed in
    record { gates = eqb-true _ _ both.0; max_delay = eqb-true _ _ both.1 }

pub rows_agree : All Agrees rows
unfolding
    gate_count gate_weight body_weight delay delay_by arrivals largest run run_module walk pairs look_all look assoc up_from gate_row leaves
    p_net ahead chain lookahead fast_module fast_adder_over grown spine cut height_from height steps fast_adder
rows_agree = all-by-test agrees agrees-both rows refl
