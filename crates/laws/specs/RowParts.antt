-- The rows of a buffer are its parts of one size; and what is made of the rows, end to end, has what is made of each as its parts.
use Prim.Native.Nat.{ℕ, zero, suc, ◌+◌, ◌*◌, ◌≤◌, ◌<◌}
use Rattle.std.specs.Prelude.{◌≡◌, refl, List, [], ◌∷◌, ◌++◌, length, take, drop}
use Rattle.std.proofs.Math.Path.{sym, ap}
use Rattle.std.proofs.Common.{◌∙◌, arith, zero-mul, mul-le-mul_right, length-drop, drop_at, drop-drop, length-take-le}
use Rattle.std.proofs.Math.Nat.{suc-mul}
use Rattle.std.proofs.Math.ListN.{length-append}
use Rattle.std.proofs.Math.Seq.{take_at}
use Rattle.meaning.specs.Layout.{each}
use Rattle.meaning.specs.Rows.{rows_of}

-- The i-th of the parts of a list that have one size.
abbrev pub part : (size i : ℕ) → List ℕ → List ℕ
part size i xs = take size (drop (i * size) xs)

part-first : (size : ℕ) (xs : List ℕ) → part size 0 xs ≡ take size xs
part-first size xs = rw (zero-mul size)

pub part-behind : (size i : ℕ) (xs : List ℕ) → part size (suc i) xs ≡ part size i (drop size xs)
part-behind size i xs =
    let n : suc i * size ≡ size + i * size = omega (arith, suc-mul i size) in
    ap (λ (k : ℕ). take size (drop k xs)) n ∙ ap (take size) (sym (drop-drop (i * size) size xs))

-- A part of a list of so many parts ends in it,
pub part-within : (size : ℕ) {i rows : ℕ} → i < rows → i * size + size ≤ rows * size
part-within size {i} {rows} h = omega (arith, suc-mul i size, mul-le-mul_right size h)

-- and has its size.
pub length-of-part :
    (size : ℕ) {i rows : ℕ} (xs : List ℕ) → length xs ≡ rows * size → i < rows → length (part size i xs) ≡ size
length-of-part size {i} xs all h =
    length-take-le size (drop (i * size) xs) (omega (arith, length-drop (i * size) xs, all, part-within size h))

-- There are as many rows as are asked for.
pub count-of-rows : (rows width : ℕ) (values : List ℕ) → length (rows_of rows width values) ≡ rows
unfolding rows_of
count-of-rows zero width values = refl
count-of-rows (suc rows) width values = ap suc (count-of-rows rows width (drop width values))

-- Where each row gives as much as the others, the parts are what the rows give.
module _ (f : List ℕ → List ℕ) (size : ℕ) (sized : (row : List ℕ) → length (f row) ≡ size) where
  pub length-of-rows : (rows width : ℕ) (values : List ℕ) → length (each f (rows_of rows width values)) ≡ rows * size
  unfolding each rows_of
  length-of-rows zero width values = sym (zero-mul size)
  length-of-rows (suc rows) width values =
      length-append (f (take width values)) (each f (rows_of rows width (drop width values)))
      ∙ omega (arith, sized (take width values), length-of-rows rows width (drop width values), suc-mul rows size)

  pub part-of-rows :
      (rows width i : ℕ) (values : List ℕ) → i < rows → part size i (each f (rows_of rows width values)) ≡ f (part width i values)
  unfolding each rows_of
  part-of-rows zero width i values h = absurd (omega arith)
  part-of-rows (suc rows) width zero values h =
      part-first size _ ∙ take_at (f (take width values)) _ size (sized (take width values)) ∙ ap f (sym (part-first width values))
  part-of-rows (suc rows) width (suc i) values h =
      part-behind size i _
      ∙ ap (part size i) (drop_at (f (take width values)) _ size (sized (take width values)))
      ∙ part-of-rows rows width i (drop width values) (omega arith)
      ∙ ap f (sym (part-behind width i values))
