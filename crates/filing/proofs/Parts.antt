-- Parts of a list of which one is laid anew, and lists whose parts are the rows of words.
use Prim.Native.Nat.{ℕ, zero, suc, ◌+◌, ◌*◌, ◌-◌, ◌≤◌, ◌<◌}
use mathlib.Core.Path.{◌≡◌, refl, sym, ap, ap₂, subst, ◌∙◌}
use mathlib.Core.List.{List, [], ◌∷◌, ◌++◌}
use native.Mathlib.Omega.{arith}
use native.Mathlib.Nat.{zero-mul, suc-mul}
use borrow.Author.Count.{below_more}
use borrow.Rule.Slice.PartMut.{mid_of, put_mid, mid_len, same_len_mid}
use lib.ListN.{length, take, drop, length-drop, take-append-drop}
use lib.Seq.{take-append-le, drop-append-le, take_at, drop_at, length-take-le, drop-drop}
use Rattle.meaning.specs.Layout.{each}
use Rattle.laws.specs.RowParts.{part, part-behind}
use Rattle.meaning.specs.Filing.{words_from}
use Rattle.filing.specs.Laying.{Masked, Rowed}

part-front :
    (size r : ℕ) (xs ys : List ℕ) → r * size + size ≤ length xs → part size r (xs ++ ys) ≡ part size r xs
part-front size r xs ys fits =
    ap (take size) (drop-append-le (r * size) xs ys (omega arith))
    ∙ take-append-le size (drop (r * size) xs) ys (omega (arith, length-drop (r * size) xs))

-- A part in front of what is laid anew is as it was,
pub part-before :
    (size r at : ℕ) (values behind : List ℕ) → r * size + size ≤ at → at ≤ length values
    → part size r (take at values ++ behind) ≡ part size r values
part-before size r at values behind fits inside =
    let long : length (take at values) ≡ at = length-take-le at values inside in
    part-front size r (take at values) behind (omega arith)
    ∙ sym (part-front size r (take at values) (drop at values) (omega arith))
    ∙ ap (part size r) (take-append-drop at values)

-- and the part that was laid stands there.
pub part-laid :
    (size i : ℕ) (values row behind : List ℕ) → i * size ≤ length values → length row ≡ size
    → part size i (take (i * size) values ++ (row ++ behind)) ≡ row
part-laid size i values row behind inside long =
    ap (take size) (drop_at (take (i * size) values) (row ++ behind) (i * size) (length-take-le (i * size) values inside))
    ∙ take_at row behind size long

-- A list whose parts are what f makes of the words is that of all words.
pub parts-of-words :
    (f : List ℕ → List ℕ) (size count n : ℕ) (values bases : List ℕ)
    → length values ≡ count * size
    → ((i : ℕ) → i < count → part size i values ≡ f (take n (drop i bases)))
    → values ≡ each f (words_from count n bases)
unfolding each words_from
parts-of-words f size zero n [] bases long rows = refl
parts-of-words f size zero n (v ∷ values) bases long rows = absurd (omega (arith, zero-mul size))
parts-of-words f size (suc count) n values bases long rows =
    let first : take size values ≡ f (take n bases) = rw (zero-mul size) at (rows 0 (omega arith)) in
    let rest : length (drop size values) ≡ count * size = length-drop size values ∙ omega (arith, suc-mul count size) in
    sym (take-append-drop size values)
    ∙ ap₂ ◌++◌ first
    (parts-of-words f size count n (drop size values) (drop 1 bases) rest
    (λ i h. sym (part-behind size i values) ∙ rows (suc i) (omega arith) ∙ ap (λ (l : List ℕ). f (take n l)) (behind i)))
  where
    one : (i : ℕ) → 1 + i ≡ suc i
    one i = omega arith

    behind : (i : ℕ) → drop (suc i) bases ≡ drop i (drop 1 bases)
    behind i = sym (drop-drop i 1 bases ∙ ap (λ (k : ℕ). drop k bases) (one i))

-- One row more.
pub rowed_more :
    {count : ℕ} {bits mask values : List ℕ} {i : ℕ} → Rowed count bits mask i values → i < count
    → (row : List ℕ) (from : ℕ) → from ≡ 2 * (count - 1 - i) → Masked bits from mask row
    → Rowed count bits mask (i + 1) (put_mid (i * 32) (i * 32 + 32 - i * 32) values row)
rowed_more {count} {bits} {mask} {values} {i} so turn row from stands is =
    let size = i * 32 + 32 - i * 32 in
    let within : i * 32 + 32 ≤ length values = omega (arith, so.whole) in
    let same : length row ≡ length (mid_of (i * 32) size values) = omega (arith, is.whole, mid_len (i * 32) (i * 32 + 32) values within) in
    record {
      whole = same_len_mid (i * 32) size values row same ∙ so.whole;
      row =
          below_more (λ r. Masked bits (2 * (count - 1 - r)) mask (part 32 r (put_mid (i * 32) size values row))) i
          (λ r l.
          subst (λ (p : List ℕ). Masked bits (2 * (count - 1 - r)) mask p)
          (sym (part-before 32 r (i * 32) values (row ++ drop size (drop (i * 32) values)) (omega arith) (omega arith)))
          (so.row r l))
          (rw (part-laid 32 i values row (drop size (drop (i * 32) values)) (omega arith) is.whole, ← stands) is);
    }
