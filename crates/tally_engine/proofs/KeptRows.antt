-- The rows of tallies: a row filled, and that the rows filled hold the tallies of their modules all the while.
use Prim.Native.Nat.{ℕ, zero, suc, ◌+◌, ◌*◌, ◌≤◌, ◌<◌}
use mathlib.Core.Path.{◌≡◌, refl, sym, ◌∙◌}
use mathlib.Core.Bool.{Bool, true, false}
use mathlib.Core.Logic.{◌≢◌, inl, inr, ⊎_elim}
use mathlib.Core.List.{List, [], ◌∷◌}
use native.Mathlib.Omega.{arith}
use borrow.Author.Tests.{eqb-true, eqb-false}
use lib.Dec.{eqb}
use lib.ListN.{length, get_or, drop, replicate}
use lib.Seq.{paste, take_all}
use Rattle.meaning.specs.Syntax.{Module}
use Rattle.meaning.specs.Figures.{tally}
use Rattle.tally_engine.specs.Tallies.{Countable}
use Rattle.tally_engine.specs.Rows.{row, RowWritten, Filled, Kept, Tallying}
use Rattle.image.specs.Entries.{all_alike}
use Rattle.image.specs.Copies.{either_first, copy_there, part-elsewhere}

-- No row is filled that is not there.
pub filled-inside : (filled : List Bool) (k : ℕ) → get_or filled k false ≡ true → k < length filled
filled-inside [] k e = let never : ◌≡◌ {A = ℕ} 0 1 = cc in absurd (omega arith)
filled-inside (b ∷ filled) zero e = omega arith
filled-inside (b ∷ filled) (suc k) e = omega (arith, filled-inside filled k e)

-- At first none is.
pub none_kept : (rs : List Module) → Kept rs (replicate 2048 0) (replicate 128 false)
none_kept rs =
    record {
      long = omega arith;
      row = λ j e. let never : ◌≡◌ {A = ℕ} 0 1 = cc (all_alike 128 j false) in absurd (omega arith);
    }

abbrev pub none-tallied : {image starts : List ℕ} {k : ℕ} → Countable image starts k → Tallying image starts k (replicate 2048 0) (replicate 128 false)
none-tallied s = record { countable = s; kept = none_kept s.rs }

module _ (counts : List ℕ) (k count : ℕ) (rows : List ℕ) where
  -- A row written with the sixteen counts.
  pub row_written :
      k < count
      → 16 * count ≤ length rows
      → length counts ≡ 16
      → RowWritten counts k count rows (paste rows (16 * k) (drop 0 counts) 16)
  row_written inside long sixteen =
      record {
        here = λ _. copy_there rows (16 * k) counts 16 fits (omega arith) ∙ take_all 16 counts (omega arith);
        others = λ j other.
            part-elsewhere rows (16 * k) counts 16 fits (omega arith) (16 * j) 16
            (⊎_elim (λ less. inl (omega arith)) (λ less. inr (omega arith)) (either_first j k other));
      }
    where
      fits : 16 * k + 16 ≤ length rows
      fits = omega arith

  -- Nothing is written of a position behind the rows.
  pub none-written-behind : count ≤ k → RowWritten counts k count rows rows
  none-written-behind behind = record { here = λ inside. absurd (omega arith); others = λ j other. refl }

-- A row that is written may be marked as filled.
pub row-filled :
    {counts : List ℕ} {k count : ℕ} {rows rows' : List ℕ} {filled filled' : List Bool}
    → RowWritten counts k count rows rows'
    → length filled' ≡ count
    → ((j : ℕ) → j ≢ k → get_or filled' j false ≡ get_or filled j false)
    → Filled counts k rows filled rows' filled'
row-filled {k = k} {filled' = filled'} written long same =
    record {
      here = λ e. written.here (omega (arith, filled-inside filled' k e));
      others = λ j other. (same j other, written.others j other);
    }

-- What is kept, with one row more.
pub more-kept :
    {rs : List Module} {counts : List ℕ} {k : ℕ} {rows : List ℕ} {filled : List Bool} {rows' : List ℕ} {filled' : List Bool}
    → Kept rs rows filled
    → Filled counts k rows filled rows' filled'
    → counts ≡ tally rs (16 + k)
    → length rows' ≡ length rows
    → length filled' ≡ length filled
    → Kept rs rows' filled'
more-kept {rs} {counts} {k} {rows} {filled} {rows'} {filled'} kept now is long long_filled =
    record { long = omega (arith, kept.long); row = λ j e. go j e (eqb j k) refl }
  where
    go : (j : ℕ) → get_or filled' j false ≡ true → (b : Bool) → eqb j k ≡ b → row rows' j ≡ tally rs (16 + j)
    go j e true same =
        let here = eqb-true j k same in
        rw here (now.here (rw here at e) ∙ is)
    go j e false differ =
        let other = now.others j (eqb-false j k differ) in
        other.1 ∙ kept.row j (sym other.0 ∙ e)
