-- `occurrences::put_driven` meets its contract: the brackets, and the nets between them. Assumes nothing.
use native.Mathlib.Omega.{arith}
use mathlib.Core.List.{List, [], ◌∷◌, ◌++◌}
use Prim.Native.Nat.{ℕ}
use borrow.Author.Rules.{rules}
use Rattle.bytes_out.specs.Laying.{Laying}
use Rattle.write_pieces.specs.Laying.{laying-start, laying-left, laying-put, laying-last, room-first}
use Rattle.ndl_pieces.specs.Apart.{apart}
use Rattle.print_lines.specs.Parts.{driven_part, behind_driven}
use Rattle.print_lines.proofs.occurrences.put_driven.Statement.{statement}
use Rattle.print_lines.proofs.occurrences.put_driven.Tie as tie

-- From the nets on.
abbrev nets : List ℕ → List ℕ
nets drives = apart 32 drives ++ behind_driven

opened : (c : tie.After-copy-nets)
    → let a = c.args in
    Laying (driven_part a.drives.now) (nets a.drives.now) a.out.now a.at c.copy-nets.new.bytes c.copy-nets.result
opened c = laying-put {rest = nets c.args.drives.now} c.copy-nets.ensures (laying-start c.requires.1)

listed : (c : tie.After-put_apart-end)
    → let a = c.args in
    Laying (driven_part a.drives.now) behind_driven a.out.now a.at c.put_apart-end.new.out c.put_apart-end.result
listed c = laying-put {rest = behind_driven} c.put_apart-end.ensures (opened c.before.before.before.before)

copy-requires : tie.Need-copy-nets-requires
copy-requires c κs =
    omega (arith, (room-first {xs = 40 ∷ 40 ∷ []} (nets c.args.drives.now) c.requires.1).fits)

put-apart-requires : tie.Need-put_apart-end-requires
put-apart-requires c κs =
    (c.requires.0, room-first {xs = apart 32 c.args.drives.now} behind_driven (laying-left (opened c.before.before.before)))

copy-requires-2 : tie.Need-copy-requires
copy-requires-2 c κs = omega (arith, (laying-left (listed c.before.before.before.before.before)).fits)

returns : tie.Need-returns
returns c =
    laying-last c.copy.ensures (listed c.before.before.before.before.before.before.before.before)

pub put_driven_spec : {M : Type 1} → statement M
put_driven_spec =
    tie.close
    (tie.spec
    copy-requires
    put-apart-requires
    copy-requires-2
    (λ c. search rules)
    returns)
