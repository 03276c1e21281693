-- `file::put_file` meets its contract: the modules between brackets. Assumes nothing.
use native.Mathlib.Omega.{arith}
use borrow.Author.Rules.{rules}
use Rattle.print_lines.proofs.Whole.{some_number, front-room, modules-told, last-room, all_told}
use Rattle.print_lines.proofs.file.put_file.Statement.{statement}
use Rattle.print_lines.proofs.file.put_file.Tie as tie

copy-requires : tie.Need-copy-first-requires
copy-requires c κs = omega (arith, front-room c.requires)

put-all-requires : tie.Need-put_all-pen-requires
put-all-requires c κs =
    modules-told c.requires c.copy-first.ensures

copy-requires-2 : tie.Need-copy-requires
copy-requires-2 c κs =
    let t = c.requires in
    omega (arith, last-room t c.copy-first.ensures (c.put_all-pen.ensures (modules-told t c.copy-first.ensures)).put)

returns : tie.Need-returns
returns c t =
    all_told t c.copy-first.ensures (c.put_all-pen.ensures (modules-told t c.copy-first.ensures)).put c.copy.ensures

pub put_file_spec : {M : Type 1} → statement M
put_file_spec =
    tie.close
    (tie.spec
    copy-requires
    (λ c. omega (arith, some_number c.requires))
    (λ c. omega (arith, c.shared_slice_known-2-1.given 0))
    put-all-requires
    copy-requires-2
    (λ c. search rules)
    returns)
