-- One more in the table for a row: it is inside the table, its count has room, and the table is that of one shelf more.
use Prim.Native.Nat.{ℕ, zero, suc, ◌+◌, ◌*◌, ◌<◌}
use mathlib.Core.Path.{◌≡◌, refl, sym, ap, ◌∙◌}
use mathlib.Core.List.{List, [], ◌∷◌}
use native.Mathlib.Omega.{arith}
use native.Mathlib.Numerals.{add-one}
use lib.ListN.{length, get_or, set, length-append}
use Rattle.meaning.specs.Filing.{how_many}
use Rattle.laws.specs.Filing.Tables.{add_each, add_each-append, length-of-add_each, entry-of-add_each, how_many-most}
use Rattle.filing.specs.Reading.{six_bits, shelves_in, Addable}

pub length-of-shelves_in : (rows : ℕ) (outputs : List ℕ) → length (shelves_in rows outputs) ≡ rows
unfolding shelves_in
length-of-shelves_in zero outputs = refl
length-of-shelves_in (suc rows) outputs =
    length-append (shelves_in rows outputs) (six_bits outputs (rows * 6) ∷ []) ∙ omega (arith, length-of-shelves_in rows outputs)

pub table_kept :
    (outputs start table : List ℕ) (i : ℕ) → table ≡ add_each (shelves_in i outputs) start → length table ≡ length start
table_kept outputs start table i is = ap length is ∙ length-of-add_each (shelves_in i outputs) start

module _
    {rows : ℕ} {outputs start : List ℕ} (a : Addable rows outputs start)
    (table : List ℕ) (i shelf : ℕ) (turn : i < rows)
    (is : table ≡ add_each (shelves_in i outputs) start) (read : shelf ≡ six_bits outputs (i * 6))
  where
    same-long : length table ≡ length start
    same-long = table_kept outputs start table i is

    pub index-inside : shelf < length table
    index-inside = omega (arith, same-long, a.inside i turn, read)

    pub count_fits : get_or table shelf 0 + 1 < 4294967296
    count_fits =
        let inside : shelf < length start = omega (arith, index-inside, same-long) in
        let entry : get_or table shelf 0 ≡ get_or start shelf 0 + how_many shelf (shelves_in i outputs) =
        ap (λ (l : List ℕ). get_or l shelf 0) is ∙ entry-of-add_each (shelves_in i outputs) start shelf inside in
        omega (
          arith,
          a.few shelf inside,
          how_many-most shelf (shelves_in i outputs),
          length-of-shelves_in i outputs,
        )

    pub one-shelf-more : set table shelf (get_or table shelf 0 + 1) ≡ add_each (shelves_in (i + 1) outputs) start
    unfolding shelves_in add_each
    one-shelf-more =
        rw (is, read, add-one i) (sym (add_each-append (shelves_in i outputs) (six_bits outputs (i * 6) ∷ []) start))
