-- `occurrences::put_driven` meets its contract: pieces put one behind the other are the front of the line. Assumes nothing.
use native.Mathlib.Omega.{arith}
use mathlib.Core.List.{List, [], ◌∷◌, ◌++◌}
use Prim.Native.Nat.{ℕ}
use borrow.Author.Rules.{rules}
use Rattle.meaning.specs.Listing.{decimal}
use Rattle.meaning.specs.Ndl.{nets_text}
use Rattle.bytes_out.specs.Laying.{Laying}
use Rattle.write_pieces.specs.Laying.{laying-start, laying-left, laying-put, laying-last, room-first}
use Rattle.ndl_text.specs.Parts.{driven_text}
use Rattle.ndl_text.proofs.occurrences.put_driven.Statement.{statement}
use Rattle.ndl_text.proofs.occurrences.put_driven.Tie as tie

-- What stands behind the nets, and behind the name.
abbrev close : List ℕ
close = 41 ∷ 32 ∷ 61 ∷ 32 ∷ []

abbrev bracketed : List ℕ → List ℕ
bracketed drives = (40 ∷ []) ++ (nets_text drives ++ close)

-- The places behind the name, the bracket and the nets.
abbrev start : tie.After-put_named-open → tie.Start
start c = c.before.before.before.before

abbrev behind-name : tie.After-copy-list → tie.After-put_named-open
behind-name c =
    c.before.before.before.before.before.before

named : (c : tie.After-put_named-open)
    → let a = c.args in
    Laying (driven_text a.position a.drives.now) (bracketed a.drives.now) a.out.now a.at c.put_named-open.new.out c.put_named-open.result
named c = laying-put {rest = bracketed c.args.drives.now} c.put_named-open.ensures (laying-start c.requires.2)

opened : (c : tie.After-copy-list)
    → let a = (start (behind-name c)).args in
    Laying (driven_text a.position a.drives.now) (nets_text a.drives.now ++ close) a.out.now a.at c.copy-list.new.bytes c.copy-list.result
opened c = laying-put {rest = nets_text (start (behind-name c)).args.drives.now ++ close} c.copy-list.ensures (named (behind-name c))

listed : (c : tie.After-put-close)
    → let a = (start (behind-name c.before.before.before.before)).args in
    Laying (driven_text a.position a.drives.now) close a.out.now a.at c.put-close.new.out c.put-close.result
listed c = laying-put {rest = close} c.put-close.ensures (opened c.before.before.before.before)

put-named-requires : tie.Need-put_named-open-requires
put-named-requires c κs =
    (c.requires.0, room-first {xs = 71 ∷ decimal c.args.position} (bracketed c.args.drives.now) c.requires.2)

copy-requires : tie.Need-copy-list-requires
copy-requires c κs =
    omega (arith, (room-first {xs = 40 ∷ []} (nets_text c.args.drives.now ++ close) (laying-left (named c.before.before.before.before.before))).fits)

put-requires : tie.Need-put-close-requires
put-requires c κs =
    let s = start (behind-name c.before.before.before) in
    (s.requires.1, room-first {xs = nets_text s.args.drives.now} close (laying-left (opened c.before.before.before)))

copy-requires-2 : tie.Need-copy-requires
copy-requires-2 c κs = omega (arith, (laying-left (listed c.before.before.before.before.before)).fits)

returns : tie.Need-returns
returns c =
    laying-last c.copy.ensures (listed c.before.before.before.before.before.before.before.before)

pub put_driven_spec : {M : Type 1} → statement M
put_driven_spec =
    tie.close
    (tie.spec
    put-named-requires
    copy-requires
    put-requires
    copy-requires-2
    (λ c. search rules)
    returns)
