-- A row: one piece of text for each entry of a list, one behind the other. It grows by an entry's piece at its end.
use Prim.Native.Nat.{ℕ, ◌+◌, ◌≤◌, ◌<◌}
use mathlib.Core.Path.{◌≡◌, ap, ◌∙◌}
use mathlib.Core.List.{List, [], ◌∷◌, ◌++◌, append-nil}
use native.Mathlib.Omega.{arith}
use native.Mathlib.Numerals.{add-one}
use lib.ListN.{length, get_or, take}
use lib.Seq.{take-suc, take_all}
use Rattle.meaning.specs.Layout.{each}
use Rattle.laws.specs.Lists.{each_append}
use Rattle.list_text.specs.Pieces.{PutDown}
use Rattle.list_text.proofs.Pieces.{put-nothing, put-after}

-- How far the row is written: the pieces of the first i entries, from a place on up to another.
pub record Row (piece : ℕ → List ℕ) (entries out₀ : List ℕ) (from : ℕ) (out : List ℕ) (at i : ℕ) : Type 0 where
  pub passed : i ≤ length entries
  pub down : PutDown (each piece (take i entries)) out₀ from out at

pub row-begin : (piece : ℕ → List ℕ) (entries out₀ : List ℕ) (from : ℕ) → from ≤ length out₀ → Row piece entries out₀ from out₀ from 0
unfolding each
row-begin piece entries out₀ from h = record { passed = omega arith; down = put-nothing out₀ from h }

module _ {piece : ℕ → List ℕ} {entries out₀ : List ℕ} {from : ℕ} {out : List ℕ} {at i : ℕ} (row : Row piece entries out₀ from out at i) where
  pub row-end : length entries ≤ i → PutDown (each piece entries) out₀ from out at
  row-end h = rw (take_all i entries h) at row.down

  pub row_more : {out' : List ℕ} {next : ℕ} → i < length entries → PutDown (piece (get_or entries i 0)) out at out' next
      → Row piece entries out₀ from out' next (i + 1)
  unfolding each
  row_more more d =
      record { passed = omega arith; down = rw (add-one i, take-suc entries i 0 more, grown) (put-after row.down d) }
    where
      grown : each piece (take i entries ++ (get_or entries i 0 ∷ [])) ≡ each piece (take i entries) ++ piece (get_or entries i 0)
      grown =
          each_append piece (take i entries) (get_or entries i 0 ∷ [])
          ∙ ap (λ (l : List ℕ). each piece (take i entries) ++ l) (append-nil (piece (get_or entries i 0)))
