use native.Mathlib.Omega.{arith}
use mathlib.Core.Path.{refl}
use Rattle.text_lines.proofs.Walks.{indent-within, shows}
use borrow.Author.Rules.{rules}
use Rattle.text_lines.proofs.choose.Statement.{statement}
use Rattle.text_lines.proofs.choose.Tie as tie

-- src/lib.rt:92:9
kept-requires : tie.Need-kept-indent-requires
kept-requires c κs = search rules

-- src/lib.rt:93:30
sub-from : tie.Need-overflow_sub-from
sub-from c = let few = indent-within c.args.line.left in omega (arith, c.kept-indent.ensures)

-- src/lib.rt:93:16
add-from : tie.Need-overflow_add-from
add-from c = search rules

-- src/lib.rt:94:13
sub-if1 : tie.Need-overflow_sub-line
sub-if1 c = search rules

-- src/lib.rt:97:17
add-t6 : tie.Need-overflow_add-result
add-t6 c = search rules

-- src/lib.rt:95:9
returns : tie.Need-returns-then-line-from-gt72
returns c = shows _ _ _ _ c.kept-indent.ensures refl c.requires (omega arith)

-- src/lib.rt:88:1
returns-2 : tie.Need-returns
returns-2 c = shows _ _ _ _ c.kept-indent.ensures refl c.requires (omega (arith, indent-within c.args.line.left, c.kept-indent.ensures, c.requires))

pub choose_spec : {M : Type 1} → statement M
choose_spec = tie.close (tie.spec kept-requires sub-from add-from sub-if1 add-t6 returns returns-2)
