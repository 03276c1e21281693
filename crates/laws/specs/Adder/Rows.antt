-- What is printed of adders: the bytes of width 1 in document 01, and the ripple column of Table 1 in document 000, as far as widths
-- are written here.
use Rattle.std.specs.Prelude.{◌≡◌, refl, Bool, true, ◌&&◌, List, [], ◌∷◌, ℕ, ◌+◌, ◌*◌, eqb, leb}
use Rattle.std.proofs.Common.{◌∙◌, leb-true, eqb-true}
use Rattle.std.proofs.Math.Bool.{and-eq-true_iff}
use Rattle.meaning.specs.Lists.{All}
use Rattle.meaning.specs.Layout.{each, occurrence_numbers, module_numbers, file_numbers, number_bytes, encode}
use Rattle.meaning.specs.Figures.{gate_count, delay}
use Rattle.meaning.specs.Adder.{up_from, adder_cells, ripple_adder, adder}
use Rattle.laws.specs.Rows.{adder_bytes}
use Rattle.laws.specs.Adder.ByTest.{all-by-test}
use Rattle.laws.specs.Adder.Figures.{adder-gates}
use Rattle.laws.specs.Adder.Delay.{adder-delay}

-- Width 1, whole.
pub bytes-at-width_1 : encode (adder 1) ≡ adder_bytes
unfolding encode file_numbers module_numbers occurrence_numbers each number_bytes adder ripple_adder adder_cells up_from
bytes-at-width_1 = refl

-- A row of Table 1: adder size in bits, ripple gate count, ripple max delay.
pub record TableRow : Type 0 where
  pub bits : ℕ
  pub gates : ℕ
  pub max_delay : ℕ

abbrev row : (bits gates max_delay : ℕ) → TableRow
row bits gates max_delay = record { bits = bits; gates = gates; max_delay = max_delay }

abbrev pub ripple_column : List TableRow
ripple_column =
    row 1 5 3
    ∷ row 2 10 5
    ∷ row 4 20 9
    ∷ row 8 40 17
    ∷ row 16 80 33
    ∷ row 25 125 51
    ∷ row 26 130 53
    ∷ row 27 135 55
    ∷ row 32 160 65
    ∷ row 64 320 129
    ∷ []

-- What is printed is so.
pub record Printed (r : TableRow) : Type 0 where
  pub gates : gate_count (adder r.bits) 18 ≡ r.gates
  pub max_delay : delay (adder r.bits) 18 ≡ r.max_delay

-- A row whose figures are 5n and 2n+1 is right.
abbrev linear : TableRow → Bool
linear r = leb 1 r.bits && (eqb (5 * r.bits) r.gates && eqb (2 * r.bits + 1) r.max_delay)

linear-printed : (r : TableRow) → linear r ≡ true → Printed r
linear-printed r passed =
    let both = (and-eq-true_iff (leb 1 r.bits) _).0 passed in
    let figures = (and-eq-true_iff (eqb (5 * r.bits) r.gates) _).0 both.1 in
    record {
      gates = adder-gates r.bits ∙ eqb-true _ _ figures.0;
      max_delay = adder-delay r.bits (leb-true _ _ both.0) ∙ eqb-true _ _ figures.1;
    }

-- Gate count and delay agree with Table 1 at each width printed up to 64.
pub table_1 : All Printed ripple_column
table_1 = all-by-test linear linear-printed ripple_column refl
