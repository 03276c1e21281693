-- `occurrences::put_taken` meets its contract: the name, the nets behind it, and the brackets. Assumes nothing.
use native.Mathlib.Omega.{arith}
use mathlib.Core.List.{List, [], ◌∷◌, ◌++◌}
use Prim.Native.Nat.{ℕ}
use borrow.Author.Rules.{rules}
use Rattle.meaning.specs.Layout.{each}
use Rattle.meaning.specs.ListPrint.{name_of}
use Rattle.bytes_out.specs.Laying.{Laying}
use Rattle.write_pieces.specs.Laying.{laying-start, laying-left, laying-put, laying-last, room-first}
use Rattle.ndl_pieces.specs.Apart.{signed}
use Rattle.print_lines.specs.Parts.{taken_part}
use Rattle.print_lines.proofs.occurrences.put_taken.Statement.{statement}
use Rattle.print_lines.proofs.occurrences.put_taken.Tie as tie

-- The brackets, and from the nets on.
abbrev close : List ℕ
close = 41 ∷ 41 ∷ []

abbrev nets : List ℕ → List ℕ
nets takes = each (signed 32) takes ++ close

named : (c : tie.After-put_name-nets)
    → let a = c.args in
    Laying (taken_part a.refers a.takes.now) (nets a.takes.now) a.out.now a.at c.put_name-nets.new.out c.put_name-nets.result
named c = laying-put {rest = nets c.args.takes.now} c.put_name-nets.ensures (laying-start c.requires.2)

listed : (c : tie.After-put_more-end)
    → let a = c.args in
    Laying (taken_part a.refers a.takes.now) close a.out.now a.at c.put_more-end.new.out c.put_more-end.result
listed c = laying-put {rest = close} c.put_more-end.ensures (named c.before.before.before.before)

put-name-requires : tie.Need-put_name-nets-requires
put-name-requires c κs =
    (c.requires.0, room-first {xs = name_of c.args.refers} (nets c.args.takes.now) c.requires.2)

put-more-requires : tie.Need-put_more-end-requires
put-more-requires c κs =
    (c.requires.1, room-first {xs = each (signed 32) c.args.takes.now} close (laying-left (named c.before.before.before)))

copy-requires : tie.Need-copy-requires
copy-requires c κs = omega (arith, (laying-left (listed c.before.before.before.before.before)).fits)

returns : tie.Need-returns
returns c =
    laying-last c.copy.ensures (listed c.before.before.before.before.before.before.before.before)

pub put_taken_spec : {M : Type 1} → statement M
put_taken_spec =
    tie.close
    (tie.spec
    put-name-requires
    put-more-requires
    copy-requires
    (λ c. search rules)
    returns)
