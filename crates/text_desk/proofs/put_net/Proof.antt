use native.Mathlib.Omega.{arith}
use Rattle.text_desk.specs.Paper.{puts_net}
use borrow.Author.Rules.{rules}
use Rattle.text_desk.proofs.put_net.Statement.{statement}
use Rattle.text_desk.proofs.put_net.Tie as tie
use Rattle.text_desk.proofs.put_net.Reads as reads
use Rattle.text_desk.proofs.put_net.Lts as lts
use Rattle.text_desk.proofs.raise.Reads as raise-reads

-- src/lib.rt:96:5
raise-requires : tie.Need-raise-requires
raise-requires c κs = search rules

-- src/lib.rt:97:5
mul-numbers : tie.Need-offset_bounds-numbers-at
mul-numbers c = search rules

-- src/lib.rt:97:5
slice-write-numbers : tie.Need-bounds-numbers-at
slice-write-numbers c = search rules

-- src/lib.rt:99:13
add-t9 : tie.Need-overflow_add-result
add-t9 c = search rules

-- src/lib.rt:90:1
same_length : tie.Need-shape_of-numbers
same_length c = search rules

-- src/lib.rt:90:1
returns : tie.Need-returns
returns c = puts_net _ _ _ _ c.raise.ensures c.requires

pub put_net_spec : {M : Type 1} → statement M
put_net_spec =
    tie.close (tie.spec raise-requires mul-numbers slice-write-numbers add-t9 same_length returns)
