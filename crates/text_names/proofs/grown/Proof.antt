use borrow.Author.Rules.{rules}
use borrow.Author.Tests.{eq-eqb, ne_eqb}
use Rattle.text_names.proofs.grown.Statement.{statement}
use Rattle.text_names.proofs.grown.Tie as tie

-- src/lib.rt:79:9
add-result : tie.Need-overflow_add-result
add-result c = search rules

-- src/lib.rt:74:1
returns : tie.Need-returns-then-node-count
returns c = rw (eq-eqb _ _ c.if-node-count.true)

-- src/lib.rt:74:1
returns-2 : tie.Need-returns-else-node-count
returns-2 c = rw (ne_eqb _ _ c.if-node-count.false)

pub grown_spec : {M : Type 1} → statement M
grown_spec = tie.close (tie.spec add-result returns returns-2)
