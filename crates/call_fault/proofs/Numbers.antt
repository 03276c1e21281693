-- The numbers of a file: how many modules it has, and the tables that are made for them.
use Prim.Native.Nat.{ℕ, ◌≤◌, ◌<◌}
use native.Mathlib.Omega.{arith}
use mathlib.Core.Path.{◌≡◌, sym, ap}
use mathlib.Core.List.{List, []}
use lib.ListN.{length, get_or, drop, replicate, length-replicate, drop_of_length-le}
use Rattle.meaning.specs.Layout.{file_numbers}
use Rattle.meaning.specs.Boxlist.{member}
use Rattle.image.specs.Entries.{all_alike}
use Rattle.fault_parts.specs.Asked.{Whole, Marked}
use Rattle.text_faults.specs.Faults.{no_fault, fault_at}

module _ {numbers : List ℕ} (w : Whole numbers) where
  pub some_number : 0 < length numbers
  unfolding file_numbers
  some_number = rw w.is (omega arith)

  pub counted : get_or numbers 0 0 ≡ length w.ms
  unfolding file_numbers
  counted = ap (λ ns. get_or ns 0 0) w.is

  pub none-there : (modules position : ℕ) → modules ≡ get_or numbers 0 0 → modules ≤ position → no_fault 0 ≡ fault_at (drop position w.ms)
  none-there modules position e l =
      let beyond : length w.ms ≤ position = omega (arith, counted) in
      ap fault_at (sym (drop_of_length-le w.ms beyond))

-- A fresh table is wide enough and marks nothing. Both are said for any length, so that none is written out.
pub wide : (count : ℕ) → 65536 ≤ count → 65536 ≤ length (replicate {A = ℕ} count 0)
wide count l = rw length-replicate l

pub fresh : (count : ℕ) → Marked (replicate count 0) []
unfolding member
fresh count = record { is = λ x. all_alike count x 0 }
