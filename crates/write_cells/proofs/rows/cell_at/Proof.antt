-- `rows::cell_at` meets its contract: the fifteen numbers are the occurrence's. Assumes nothing.
use Prim.Native.Nat.{ℕ}
use native.Mathlib.Omega.{arith}
use borrow.Author.Rules.{rules}
use mathlib.Core.Path.{◌≡◌, sym, subst}
use mathlib.Core.List.{List}
use Rattle.meaning.specs.Layout.{each, number_bytes}
use Rattle.meaning.specs.Alu.{lines_of}
use Rattle.bytes_out.specs.Filled.{Put}
use Rattle.write_pieces.specs.Rooms.{Room}
use Rattle.write_ahead.proofs.Smalls.{all_small}
use Rattle.write_cells.specs.Lists.{cell_with, cell_list}
use Rattle.write_cells.proofs.rows.cell_at.Statement.{statement}
use Rattle.write_cells.proofs.rows.cell_at.Tie as tie

-- With the lines that are found.
module _ (n copied i lines : ℕ) (found : lines ≡ lines_of n copied i) where
  room-with : {bytes : List ℕ} {at : ℕ} → Room (each number_bytes (cell_list n copied i)) bytes at
      → Room (each number_bytes (cell_with n i lines)) bytes at
  room-with {bytes} {at} = subst (λ (l : ℕ). Room (each number_bytes (cell_with n i l)) bytes at) (sym found)

  put-with : {before after : List ℕ} {at next : ℕ} → Put (each number_bytes (cell_with n i lines)) before at after next
      → Put (each number_bytes (cell_list n copied i)) before at after next
  put-with {before} {after} {at} {next} = subst (λ (l : ℕ). Put (each number_bytes (cell_with n i l)) before at after next) found

put-list-requires : tie.Need-put_list-requires
put-list-requires c κs =
    let a = c.args in (
      all_small _ (omega (arith, c.lines_of-lines.ensures)),
      room-with a.width a.copied a.i _ c.lines_of-lines.ensures c.requires.3,
    )

returns : tie.Need-returns
returns c =
    let a = c.args in
    put-with a.width a.copied a.i _ c.lines_of-lines.ensures c.put_list.ensures

pub cell_at_spec : {M : Type 1} → statement M
cell_at_spec =
    tie.close
    (tie.spec
    (λ c κs. search rules)
    (λ c. search rules)
    (λ c. search rules)
    (λ c. search rules)
    (λ c. search rules)
    (λ c. search rules)
    (λ c. search rules)
    (λ c. search rules)
    (λ c. search rules)
    (λ c. search rules)
    (λ c. search rules)
    (λ c. search rules)
    (λ c. search rules)
    (λ c. search rules)
    (λ c. search rules)
    (λ c. search rules)
    (λ c. search rules)
    (λ c. search rules)
    (λ c. search rules)
    (λ c. search rules)
    put-list-requires
    (λ c. search rules)
    returns)
