-- `check_lists::lists::list_end` meets its contract: the count that it reads is the length of the list. Assumes nothing.
use mathlib.Core.Path.{◌∙◌}
use native.Mathlib.Omega.{arith}
use borrow.Author.Rules.{rules}
use Rattle.image.specs.Stands.{stands-head}
use Rattle.check_lists.proofs.lists.list_end.Statement.{statement}
use Rattle.check_lists.proofs.lists.list_end.Tie as tie

add-result : tie.Need-overflow_add-result
add-result c = search rules

entry-requires : tie.Need-entry-requires
entry-requires c κs = let s = c.requires.stands in omega (arith, s.within)

add-result-2 : tie.Need-overflow_add-result-2
add-result-2 c =
    let s = c.requires.stands in omega (arith, s.within, c.entry.ensures ∙ stands-head s)

returns : tie.Need-returns
returns c list s = omega (arith, c.entry.ensures ∙ stands-head s)

pub list_end_spec : {M : Type 1} → statement M
list_end_spec = tie.close (tie.spec add-result entry-requires add-result-2 returns)
