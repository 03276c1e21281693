-- Up to 64 rows packed into words, in groups of eight from the last to the first.
use Rattle.std.specs.Prelude.{ℕ, zero, suc, ◌+◌, ◌-◌, ◌*◌, ◌%◌, ◌^◌, ◌≤◌, ◌<◌, Bool, ◌⊎◌, ◌≡◌, refl, length, get_or, take}
use mathlib.Core.List.{List, [], ◌∷◌, ◌++◌}
use Rattle.std.proofs.Math.Logic.{inl, inr}
use Rattle.std.proofs.Common.{sym, subst₂, ◌∙◌, zero-add, zero-mul, suc-add, suc-mul, add_comm, lt_of_lt_of_le, pow_mono}
use Rattle.std.proofs.Math.Path.{ap, subst}
use Rattle.std.proofs.Math.Nat.{add-mul}
use native.Mathlib.Omega.{arith}
use Rattle.std.proofs.Math.ListN.{drop}
use Rattle.std.proofs.Math.Seq.{drop-drop}
use Rattle.meaning.specs.Values.{Val, value}
use Rattle.lanes.specs.Words.{word, word_small, word-append}
use Rattle.lanes.specs.Rows.{column, Packed}
use Rattle.meaning.specs.Rows.{rows_of}
use Rattle.lanes.specs.Groups.{length-column, length-rows_of}
use Rattle.lanes.specs.Feeding.{Hungry, Fed}

column-append : (i : ℕ) (xs ys : List (List ℕ)) → column i (xs ++ ys) ≡ column i xs ++ column i ys
column-append i [] ys = refl
column-append i (x ∷ xs) ys = ap (λ l. value (get_or x i 0) ∷ l) (column-append i xs ys)

-- Rows of which the first are so many.
rows_of-add : (a b w : ℕ) (values : List ℕ) → rows_of (a + b) w values ≡ rows_of a w values ++ rows_of b w (drop (a * w) values)
unfolding rows_of
rows_of-add zero b w values = rw (zero-add b, zero-mul w) refl
rows_of-add (suc a) b w values =
    rw (suc-add a b)
    (ap (λ l. take w values ∷ l)
    (rows_of-add a b w (drop w values)
    ∙ ap (λ l. rows_of a w (drop w values) ++ rows_of b w l) (drop-drop (a * w) w values ∙ ap (λ (n : ℕ). drop n values) (add_comm w (a * w) ∙ sym (suc-mul a w)))))

-- A group of eight in front of the rows that words hold; or of any number where they hold none.
packed-fed :
    {f : Val → Bool} {group rows : List (List ℕ)} {n : ℕ} {bytes old new : List ℕ}
    → Packed f group n bytes
    → Packed f rows n old
    → Fed bytes old new n
    → (length group ≡ 8) ⊎ (rows ≡ [])
    → Packed f (group ++ rows) n new
packed-fed {f} {group} {rows} {n} {bytes} {old} {new} g p fed which = record { at = λ i h. at-word i h which }
  where
    at-word : (i : ℕ) → i < n → (length group ≡ 8) ⊎ (rows ≡ []) → get_or new i 0 ≡ word f (column i (group ++ rows))
    at-word i h (inl eight) =
        let m : length (column i group) ≡ 8 = length-column i group ∙ eight in
        let whole : word f (column i (group ++ rows)) ≡ word f (column i rows) * 256 + word f (column i group) =
        ap (word f) (column-append i group rows)
        ∙ word-append f (column i group) (column i rows)
        ∙ ap (λ (k : ℕ). word f (column i rows) * 2 ^ k + word f (column i group)) m in
        omega (arith, fed.done i h, g.at i h, p.at i h, whole)
    at-word i h (inr none) =
        let z : word f (column i rows) ≡ 0 = ap (λ (l : List (List ℕ)). word f (column i l)) none in
        let whole : word f (column i (group ++ rows)) ≡ 0 * 2 ^ length (column i group) + word f (column i group) =
        ap (word f) (column-append i group rows)
        ∙ word-append f (column i group) (column i rows)
        ∙ ap (λ (k : ℕ). k * 2 ^ length (column i group) + word f (column i group)) z in
        omega (arith, fed.done i h, g.at i h, p.at i h, whole)

-- A word can be packed: its rows are there, and nothing is packed yet.
pub record Whole (values : List ℕ) (inputs from count : ℕ) (words : List ℕ) : Type 0 where
  pub there : from + count * inputs ≤ length values
  pub few : count ≤ 64
  pub narrow : inputs ≤ 192
  pub long : inputs ≤ length words
  pub empty : (i : ℕ) → i < inputs → get_or words i 0 ≡ 0

-- So many rows are left, and those behind them are packed: none, or all behind a multiple of eight.
pub record Wording (f : Val → Bool) (values : List ℕ) (inputs from count left : ℕ) (old words : List ℕ) : Type 0 where
  pub within : left ≤ count
  pub even : (left % 8 ≡ 0) ⊎ (left ≡ count)
  pub size : length words ≡ length old
  pub packed : Packed f (rows_of (count - left) inputs (drop (from + left * inputs) values)) inputs words

module _ {f : Val → Bool} {values : List ℕ} {inputs from count : ℕ} {old : List ℕ} (g : Whole values inputs from count old) where
  pub wording_start : Wording f values inputs from count count old old
  unfolding rows_of
  wording_start =
      let none : count - count ≡ 0 = omega arith in
      record {
        within = omega arith;
        even = inr refl;
        size = refl;
        packed = subst (λ (n : ℕ). Packed f (rows_of n inputs (drop (from + count * inputs) values)) inputs old) (sym none) (record { at = g.empty });
      }

  module _ {left some : ℕ} {words : List ℕ} (p : Wording f values inputs from count left old words) (more : 0 < left) (is : some ≡ (left - 1) % 8 + 1) where
    pub some_left : some ≤ left
    some_left = omega arith

    pub group-there : from + (left - some) * inputs + some * inputs ≤ length values
    group-there =
        let a : left - some + some ≡ left = omega arith in
        let b : left + (count - left) ≡ count = omega (arith, p.within) in
        omega (arith, g.there, ap (λ (k : ℕ). k * inputs) a, add-mul (left - some) some inputs, ap (λ (k : ℕ). k * inputs) b, add-mul left (count - left) inputs)

    full : (some ≡ 8) ⊎ (left ≡ count)
    full = go p.even
      where
        go : (left % 8 ≡ 0) ⊎ (left ≡ count) → (some ≡ 8) ⊎ (left ≡ count)
        go (inl e) = inl (omega arith)
        go (inr e) = inr e

    pub hungry : {bytes : List ℕ} → inputs ≤ length bytes → Hungry inputs bytes words
    unfolding rows_of
    hungry {bytes} long =
        record {
          bytes-long = long;
          long = omega (arith, g.long, p.size);
          light = λ i h. light i h full;
        }
      where
        rows : List (List ℕ)
        rows = rows_of (count - left) inputs (drop (from + left * inputs) values)

        light : (i : ℕ) → i < inputs → (some ≡ 8) ⊎ (left ≡ count) → get_or words i 0 < 72057594037927936
        light i h (inl e) =
            subst (λ (w : ℕ). w < 72057594037927936) (sym (p.packed.at i h))
            (lt_of_lt_of_le (word_small f (column i rows))
            (pow_mono {j = 56} (omega (arith, length-column i rows, length-rows_of (count - left) inputs (drop (from + left * inputs) values), g.few, some_left))))
        light i h (inr e) =
            let z : count - left ≡ 0 = omega arith in
            omega (arith, p.packed.at i h ∙ ap (λ (k : ℕ). word f (column i (rows_of k inputs (drop (from + left * inputs) values)))) z)

    pub wording_more :
        {bytes words' : List ℕ}
        → Packed f (rows_of some inputs (drop (from + (left - some) * inputs) values)) inputs bytes
        → Fed bytes words words' inputs
        → Wording f values inputs from count (left - some) old words'
    unfolding rows_of
    wording_more {bytes} {words'} b fed =
        let front = drop (from + (left - some) * inputs) values in
        let n : count - (left - some) ≡ some + (count - left) = omega (arith, p.within, some_left) in
        let a : left - some + some ≡ left = omega (arith, some_left) in
        let place : from + (left - some) * inputs + some * inputs ≡ from + left * inputs = omega (arith, ap (λ (k : ℕ). k * inputs) a, add-mul (left - some) some inputs) in
        let behind : drop (some * inputs) front ≡ drop (from + left * inputs) values = drop-drop (some * inputs) (from + (left - some) * inputs) values ∙ ap (λ (k : ℕ). drop k values) place in
        record {
          within = omega (arith, p.within);
          even = inl (omega (arith, is));
          size = fed.size ∙ p.size;
          packed =
              subst (λ (l : List (List ℕ)). Packed f l inputs words')
              (sym (ap (λ (k : ℕ). rows_of k inputs front) n ∙ rows_of-add some (count - left) inputs front ∙ ap (λ l. rows_of some inputs front ++ rows_of (count - left) inputs l) behind))
              (packed-fed b p.packed fed (which full));
        }
      where
        which : (some ≡ 8) ⊎ (left ≡ count) → (length (rows_of some inputs (drop (from + (left - some) * inputs) values)) ≡ 8) ⊎ (rows_of (count - left) inputs (drop (from + left * inputs) values) ≡ [])
        which (inl e) = inl (length-rows_of some inputs _ ∙ e)
        which (inr e) = let z : count - left ≡ 0 = omega arith in inr (ap (λ (k : ℕ). rows_of k inputs (drop (from + left * inputs) values)) z)

  pub wording_all : {left : ℕ} {words : List ℕ} → Wording f values inputs from count left old words → left ≤ 0
      → Packed f (rows_of count inputs (drop from values)) inputs words
  wording_all {left} {words} p done =
      let none : left ≡ 0 = omega arith in
      let all : count - left ≡ count = omega arith in
      let start : from + left * inputs ≡ from = omega (arith, ap (λ (k : ℕ). k * inputs) none) in
      subst₂ (λ (k j : ℕ). Packed f (rows_of k inputs (drop j values)) inputs words) all start p.packed
