use mathlib.Core.Path.{ap₂}
use lib.Dec.{eqb}
use borrow.Author.Rules.{rules}
use Rattle.text_words.proofs.is_alike.Statement.{statement}
use Rattle.text_words.proofs.is_alike.Tie as tie

-- src/lib.rt:161:5
capital-requires : tie.Need-capital-requires
capital-requires c κs = search rules

-- src/lib.rt:161:21
capital-requires-2 : tie.Need-capital-requires-2
capital-requires-2 c κs = search rules

-- src/lib.rt:158:1
returns : tie.Need-returns
returns c = ap₂ eqb c.capital.ensures c.capital-2.ensures

pub is_alike_spec : {M : Type 1} → statement M
is_alike_spec = tie.close (tie.spec capital-requires capital-requires-2 returns)
