use native.Mathlib.Omega.{arith}
use lib.ListN.{length-set}
use Rattle.text_desk.specs.Paper.{puts_name}
use borrow.Author.Rules.{rules}
use Rattle.text_desk.proofs.put_name.Statement.{statement}
use Rattle.text_desk.proofs.put_name.Tie as tie
use Rattle.text_desk.proofs.put_name.Reads as reads
use Rattle.text_desk.proofs.put_name.Lts as lts

-- src/lib.rt:80:5
mul-numbers : tie.Need-offset_bounds-numbers-at
mul-numbers c = search rules

-- src/lib.rt:80:5
slice-write-numbers : tie.Need-bounds-numbers-at
slice-write-numbers c = search rules

-- src/lib.rt:81:13
add-numbers : tie.Need-overflow_add-numbers
add-numbers c = search rules

-- src/lib.rt:81:5
mul-numbers-2 : tie.Need-offset_bounds-numbers-at-2
mul-numbers-2 c = search rules

-- src/lib.rt:81:5
slice-write-numbers-2 : tie.Need-bounds-numbers-at-2
slice-write-numbers-2 c = simp length-set (omega arith)

-- src/lib.rt:83:13
add-t5 : tie.Need-overflow_add-result
add-t5 c = search rules

-- src/lib.rt:84:15
add-t7 : tie.Need-overflow_add-result-2
add-t7 c = search rules

-- src/lib.rt:75:1
same_length : tie.Need-shape_of-numbers
same_length c = search rules

-- src/lib.rt:75:1
returns : tie.Need-returns
returns c = puts_name _ _ _ c.requires

pub put_name_spec : {M : Type 1} → statement M
put_name_spec =
    tie.close
    (tie.spec
    mul-numbers
    slice-write-numbers
    add-numbers
    mul-numbers-2
    slice-write-numbers-2
    add-t5
    add-t7
    same_length
    returns)
