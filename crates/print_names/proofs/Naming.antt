-- The names lent for a listing that are the gates' own, and what stands in front of an entry.
use Prim.Native.Nat.{ℕ, zero, suc, ◌<◌, ◌≤◌}
use mathlib.Core.Path.{◌≡◌, refl}
use mathlib.Core.Bool.{Bool, true, false, cond}
use mathlib.Core.List.{List, []}
use native.Mathlib.Omega.{arith}
use lib.ListN.{get_or}
use borrow.Author.Tests.{ltb-true}
use Rattle.meaning.specs.Gates.{is_gate}
use Rattle.meaning.specs.Ndl.{name_at, letters, reference_text}
use Rattle.laws.specs.Texts.Below.{all_below, below}
use Rattle.laws.specs.Texts.Numbering.{same-name}
use Rattle.meaning.specs.ListNumbers.{spelling, gate_names, same_name}
use Rattle.meaning.specs.ListPrint.{module_name, name_of}
use Rattle.print_names.specs.Entries.{leading}

unfoldable pub gate_table : List ℕ
gate_table = spelling "B-BUF   B-NOT   B-NAND  B-NAND3 B-NAND4 B-OR    B-OR3   B-OR4   B-EQV   B-XOR   B-AND   B-AND3  B-AND4  B-NOR   B-NOR3  B-NOR4  "

table-name : (n : ℕ) → n < 16 → letters (name_at gate_table n) ≡ get_or gate_names n []
unfolding all_below gate_table gate_names spelling same_name letters
table-name n l =
    same-name (letters (name_at gate_table n)) (get_or gate_names n [])
    (below 16 (λ n. same_name (letters (name_at gate_table n)) (get_or gate_names n [])) refl n l)

pub named-by-table : (n : ℕ) → reference_text gate_table n ≡ name_of n
unfolding reference_text name_of
named-by-table n = go (is_gate n) refl
  where
    go : (b : Bool) → is_gate n ≡ b → cond b (letters (name_at gate_table n)) (module_name n) ≡ cond b (get_or gate_names n []) (module_name n)
    go true e = table-name n (ltb-true n 16 e)
    go false e = refl

pub leading-first : (between : List ℕ) (position : ℕ) → position < 1 → leading between position ≡ []
leading-first between zero h = refl
leading-first between (suc p) h = absurd (omega arith)

pub leading-later : (between : List ℕ) (position : ℕ) → 1 ≤ position → leading between position ≡ between
leading-later between zero h = absurd (omega arith)
leading-later between (suc p) h = refl
