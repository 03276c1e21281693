-- Rows laid end to end in one buffer, packed from the last of a group to its first.
use Prim.Native.Nat.{ℕ, zero, suc, ◌+◌, ◌-◌, ◌*◌, ◌≤◌, ◌<◌}
use Rattle.std.specs.Prelude.{Bool, ◌≡◌, refl, get_or, take}
use mathlib.Core.List.{List, [], ◌∷◌}
use Rattle.std.proofs.Common.{sym, subst₂, ◌∙◌, suc-mul, add-mul, lt_of_lt_of_le, length-drop, length-take-le, pow_mono}
use Rattle.std.proofs.Math.Path.{ap, subst}
use native.Mathlib.Omega.{arith}
use Rattle.std.proofs.Math.ListN.{length, drop}
use Rattle.std.proofs.Math.Seq.{drop-drop}
use Rattle.meaning.specs.Values.{Val}
use Rattle.meaning.specs.Rows.{rows_of}
use Rattle.lanes.specs.Words.{word_small}
use Rattle.lanes.specs.Rows.{column, Packed, Light, Added, packed_more}

pub length-column : (i : ℕ) (rows : List (List ℕ)) → length (column i rows) ≡ length rows
length-column i [] = refl
length-column i (row ∷ rows) = ap suc (length-column i rows)

pub length-rows_of : (rows width : ℕ) (values : List ℕ) → length (rows_of rows width values) ≡ rows
unfolding rows_of
length-rows_of zero width values = refl
length-rows_of (suc rows) width values = ap suc (length-rows_of rows width (drop width values))

-- Up to seven rows leave place for another.
light-of : {f : Val → Bool} {rows : List (List ℕ)} {n : ℕ} {words : List ℕ} → Packed f rows n words → length rows ≤ 7 → n ≤ length words → Light n words
light-of {f} {rows} p few long =
    record {
      long = long;
      light = λ i h.
          subst (λ (w : ℕ). w < 128) (sym (p.at i h))
          (lt_of_lt_of_le (word_small f (column i rows)) (pow_mono {j = 7} (omega (arith, length-column i rows, few))));
    }

-- A group can be packed: it is there, and nothing is packed yet.
pub record Group (values : List ℕ) (inputs from count : ℕ) (words : List ℕ) : Type 0 where
  pub there : from + count * inputs ≤ length values
  pub few : count ≤ 8
  pub long : inputs ≤ length words
  pub empty : (i : ℕ) → i < inputs → get_or words i 0 ≡ 0

-- So many rows are left, and those behind them are packed.
pub record Grouping (f : Val → Bool) (values : List ℕ) (inputs from count left at : ℕ) (old words : List ℕ) : Type 0 where
  pub within : left ≤ count
  pub place : at ≡ from + left * inputs
  pub size : length words ≡ length old
  pub packed : Packed f (rows_of (count - left) inputs (drop at values)) inputs words

module _ {f : Val → Bool} {values : List ℕ} {inputs from count : ℕ} {old : List ℕ} (g : Group values inputs from count old) where
  pub grouping_start : {at : ℕ} → at ≡ from + count * inputs → Grouping f values inputs from count count at old old
  unfolding rows_of
  grouping_start {at} e =
      let none : count - count ≡ 0 = omega arith in
      record {
        within = omega arith;
        place = e;
        size = refl;
        packed = subst (λ (n : ℕ). Packed f (rows_of n inputs (drop at values)) inputs old) (sym none) (record { at = g.empty });
      }

  module _ {left at : ℕ} {words : List ℕ} (p : Grouping f values inputs from count left at old words) (more : 0 < left) where
    -- The row in front of those that are packed.
    pub before-is : at ≡ from + (left - 1) * inputs + inputs
    before-is =
        let n : suc (left - 1) ≡ left = omega arith in
        p.place ∙ omega (arith, ap (λ (k : ℕ). k * inputs) n, suc-mul (left - 1) inputs)

    pub end-there : at ≤ length values
    end-there =
        let rest : left + (count - left) ≡ count = omega (arith, p.within) in
        omega (arith, p.place, g.there, ap (λ (k : ℕ). k * inputs) rest, add-mul left (count - left) inputs)

    pub row-long : length (take inputs (drop (at - inputs) values)) ≡ inputs
    row-long = length-take-le inputs (drop (at - inputs) values) (omega (arith, length-drop (at - inputs) values, before-is, end-there))

    pub row-light : Light inputs words
    row-light =
        light-of p.packed (omega (arith, length-rows_of (count - left) inputs (drop at values), g.few)) (omega (arith, p.size, g.long))

    pub grouping_more :
        {row words' : List ℕ}
        → row ≡ take inputs (drop (at - inputs) values)
        → Added f row words words' (length row)
        → Grouping f values inputs from count (left - 1) (at - inputs) old words'
    unfolding rows_of
    grouping_more {row} {words'} e a =
        let n : length row ≡ inputs = ap length e ∙ row-long in
        let back : at - inputs + inputs ≡ at = omega (arith, before-is) in
        let many : count - (left - 1) ≡ suc (count - left) = omega (arith, p.within) in
        let behind : drop inputs (drop (at - inputs) values) ≡ drop at values = drop-drop inputs (at - inputs) values ∙ ap (λ (k : ℕ). drop k values) back in
        let rows = rows_of (count - left) inputs in
        record {
          within = omega (arith, p.within);
          place = omega (arith, before-is);
          size = a.size ∙ p.size;
          packed =
              subst (λ (k : ℕ). Packed f (rows_of k inputs (drop (at - inputs) values)) inputs words') (sym many)
              (subst (λ (l : List ℕ). Packed f (take inputs (drop (at - inputs) values) ∷ rows l) inputs words') (sym behind)
              (subst (λ (r : List ℕ). Packed f (r ∷ rows (drop at values)) inputs words') e
              (subst (λ (k : ℕ). Packed f (row ∷ rows (drop at values)) k words') n
              (packed_more (subst (λ (k : ℕ). Packed f (rows (drop at values)) k words) (sym n) p.packed) a))));
        }

  pub grouping_all : {left at : ℕ} {words : List ℕ} → Grouping f values inputs from count left at old words → left ≤ 0
      → Packed f (rows_of count inputs (drop from values)) inputs words
  grouping_all {left} {at} {words} p done =
      let none : left ≡ 0 = omega arith in
      let all : count - left ≡ count = omega arith in
      let start : at ≡ from = p.place ∙ omega (arith, ap (λ (k : ℕ). k * inputs) none) in
      subst₂ (λ (k j : ℕ). Packed f (rows_of k inputs (drop j values)) inputs words) all start p.packed
