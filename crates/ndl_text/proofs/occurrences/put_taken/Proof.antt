-- `occurrences::put_taken` meets its contract: pieces put one behind the other are the rest of the line. Assumes nothing.
use native.Mathlib.Omega.{arith}
use mathlib.Core.List.{List, [], ◌∷◌, ◌++◌}
use Prim.Native.Nat.{ℕ}
use borrow.Author.Rules.{rules}
use Rattle.meaning.specs.Ndl.{reference_text, nets_text, line_end}
use Rattle.bytes_out.specs.Laying.{Laying}
use Rattle.write_pieces.specs.Laying.{laying-start, laying-left, laying-put, laying-last, room-first}
use Rattle.ndl_text.specs.Parts.{taken_text}
use Rattle.ndl_text.proofs.occurrences.put_taken.Statement.{statement}
use Rattle.ndl_text.proofs.occurrences.put_taken.Tie as tie

-- What stands behind the nets, and behind the name.
abbrev close : List ℕ
close = 41 ∷ line_end

abbrev bracketed : List ℕ → List ℕ
bracketed takes = (40 ∷ []) ++ (nets_text takes ++ close)

-- The places behind the name, the bracket and the nets.
abbrev start : tie.After-put-open → tie.Start
start c =
    c.before.before.before.before.before

abbrev behind-name : tie.After-copy-list → tie.After-put-open
behind-name c =
    c.before.before.before.before.before.before

named : (c : tie.After-put-open)
    → let a = (start c).args in
    Laying (taken_text a.names.now a.refers a.takes.now) (bracketed a.takes.now) a.out.now a.at c.put-open.new.out c.put-open.result
named c = laying-put {rest = bracketed (start c).args.takes.now} c.put-open.ensures (laying-start (start c).requires.3)

opened : (c : tie.After-copy-list)
    → let a = (start (behind-name c)).args in
    Laying (taken_text a.names.now a.refers a.takes.now) (nets_text a.takes.now ++ close) a.out.now a.at c.copy-list.new.bytes c.copy-list.result
opened c = laying-put {rest = nets_text (start (behind-name c)).args.takes.now ++ close} c.copy-list.ensures (named (behind-name c))

listed : (c : tie.After-put-close)
    → let a = (start (behind-name c.before.before.before.before)).args in
    Laying (taken_text a.names.now a.refers a.takes.now) close a.out.now a.at c.put-close.new.out c.put-close.result
listed c = laying-put {rest = close} c.put-close.ensures (opened c.before.before.before.before)

put-requires : tie.Need-put-open-requires
put-requires c κs =
    (c.requires.0, c.requires.1, room-first {xs = reference_text c.args.names.now c.args.refers} (bracketed c.args.takes.now) c.requires.3)

copy-requires : tie.Need-copy-list-requires
copy-requires c κs =
    omega (arith, (room-first {xs = 40 ∷ []} (nets_text (start c.before.before.before.before.before).args.takes.now ++ close) (laying-left (named c.before.before.before.before.before))).fits)

put-requires-2 : tie.Need-put-close-requires
put-requires-2 c κs =
    let s = start (behind-name c.before.before.before) in
    (s.requires.2, room-first {xs = nets_text s.args.takes.now} close (laying-left (opened c.before.before.before)))

copy-requires-2 : tie.Need-copy-requires
copy-requires-2 c κs = omega (arith, (laying-left (listed c.before.before.before.before.before)).fits)

returns : tie.Need-returns
returns c =
    laying-last c.copy.ensures (listed c.before.before.before.before.before.before.before.before)

pub put_taken_spec : {M : Type 1} → statement M
put_taken_spec =
    tie.close
    (tie.spec
    put-requires
    copy-requires
    put-requires-2
    copy-requires-2
    (λ c. search rules)
    returns)
