-- `file::put_file` meets its contract: the first lines, the blocks and the last lines. Assumes nothing.
use native.Mathlib.Omega.{arith}
use borrow.Author.Rules.{rules}
use Rattle.ndl_text.proofs.Whole.{some_number, front-room, blocks-told, last-room, all_told}
use Rattle.ndl_text.proofs.file.put_file.Statement.{statement}
use Rattle.ndl_text.proofs.file.put_file.Tie as tie

-- The places behind the first lines and behind the blocks.
abbrev start : tie.After-copy-first → tie.Start
start c =
    c.before.before.before.before.before.before.before

abbrev fronted : tie.After-put_blocks-last → tie.After-copy-first
fronted c =
    c.before.before.before.before.before

copy-requires : tie.Need-copy-first-requires
copy-requires c κs =
    omega (arith, front-room c.requires)

put-blocks-requires : tie.Need-put_blocks-last-requires
put-blocks-requires c κs =
    blocks-told (start c.before.before.before.before).requires c.copy-first.ensures

copy-requires-2 : tie.Need-copy-requires
copy-requires-2 c κs =
    let p = fronted c.before.before.before.before.before in
    let t = (start p).requires in
    omega (arith, last-room t p.copy-first.ensures (c.put_blocks-last.ensures (blocks-told t p.copy-first.ensures)))

returns : tie.Need-returns
returns c t =
    let p = fronted c.before.before.before.before.before.before.before.before in
    all_told t p.copy-first.ensures (c.put_blocks-last.ensures (blocks-told t p.copy-first.ensures)) c.copy.ensures

pub put_file_spec : {M : Type 1} → statement M
put_file_spec =
    tie.close
    (tie.spec
    copy-requires
    (λ c. omega (arith, some_number (start c.before.before.before).requires))
    (λ c. omega (arith, c.shared_slice_known-3-1.given 0))
    put-blocks-requires
    copy-requires-2
    (λ c. search rules)
    returns)
