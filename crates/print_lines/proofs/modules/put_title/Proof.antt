-- `modules::put_title` meets its contract: the bracket, the module's name, and the bracket of its inputs. Assumes nothing.
use native.Mathlib.Omega.{arith}
use mathlib.Core.List.{List, [], ◌∷◌, ◌++◌}
use Prim.Native.Nat.{ℕ}
use borrow.Author.Rules.{rules}
use Rattle.meaning.specs.ListPrint.{module_name}
use Rattle.bytes_out.specs.Laying.{Laying}
use Rattle.write_pieces.specs.Laying.{laying-start, laying-left, laying-put, laying-last, room-first}
use Rattle.print_lines.specs.Parts.{title_part}
use Rattle.print_lines.proofs.modules.put_title.Statement.{statement}
use Rattle.print_lines.proofs.modules.put_title.Tie as tie

-- What stands behind the name, and from it on.
abbrev behind : List ℕ
behind = 32 ∷ 40 ∷ []

abbrev name : ℕ → List ℕ
name number = module_name number ++ behind

opened : (c : tie.After-copy-name)
    → let a = c.args in
    Laying (title_part a.number) (name a.number) a.out.now a.at c.copy-name.new.bytes c.copy-name.result
opened c = laying-put {rest = name c.args.number} c.copy-name.ensures (laying-start c.requires.1)

named : (c : tie.After-put_named-end)
    → let a = c.args in
    Laying (title_part a.number) behind a.out.now a.at c.put_named-end.new.out c.put_named-end.result
named c = laying-put {rest = behind} c.put_named-end.ensures (opened c.before.before.before.before)

copy-requires : tie.Need-copy-name-requires
copy-requires c κs =
    omega (arith, (room-first {xs = 40 ∷ []} (name c.args.number) c.requires.1).fits)

put-named-requires : tie.Need-put_named-end-requires
put-named-requires c κs =
    (c.requires.0, room-first {xs = module_name c.args.number} behind (laying-left (opened c.before.before.before)))

copy-requires-2 : tie.Need-copy-requires
copy-requires-2 c κs = omega (arith, (laying-left (named c.before.before.before.before.before)).fits)

returns : tie.Need-returns
returns c =
    laying-last c.copy.ensures (named c.before.before.before.before.before.before.before.before)

pub put_title_spec : {M : Type 1} → statement M
put_title_spec =
    tie.close
    (tie.spec
    copy-requires
    put-named-requires
    copy-requires-2
    (λ c. search rules)
    returns)
