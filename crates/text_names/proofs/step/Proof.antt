use native.Mathlib.Omega.{arith}
use borrow.Author.Rules.{rules}
use lib.ListN.{length-set}
use Rattle.text_names.specs.Walking.{step-found, step-grown}
use Rattle.text_names.proofs.step.Statement.{statement}
use Rattle.text_names.proofs.step.Tie as tie

-- src/lib.rt:59:9
child-requires : tie.Need-child-u-requires
child-requires c κs = search rules

-- src/lib.rt:61:9
same_length : tie.Need-shape_of-tree-then-u-ne0
same_length c = search rules

-- src/lib.rt:61:9
returns : tie.Need-returns-then-u-ne0
returns c = λ b. step-found _ _ b _ _ _ (omega arith) (c.child-u.ensures b)

-- src/lib.rt:63:23
mul-before : tie.Need-overflow_mul-before
mul-before c = search rules

-- src/lib.rt:63:18
mul-before-2 : tie.Need-offset_bounds-tree-n
mul-before-2 c = search rules

-- src/lib.rt:63:18
slice-read-before : tie.Need-bounds-tree-n
slice-read-before c = search rules

-- src/lib.rt:64:27
letter-requires : tie.Need-letter-requires
letter-requires c κs = search rules

-- src/lib.rt:64:10
mul-tree : tie.Need-overflow_mul-tree
mul-tree c = search rules

-- src/lib.rt:64:10
add-tree : tie.Need-overflow_add-tree
add-tree c = search rules

-- src/lib.rt:64:5
mul-tree-2 : tie.Need-offset_bounds-tree-count
mul-tree-2 c = search rules

-- src/lib.rt:64:5
slice-write-tree : tie.Need-bounds-tree-count
slice-write-tree c = search rules

-- src/lib.rt:65:10
mul-tree-3 : tie.Need-overflow_mul-tree-2
mul-tree-3 c = search rules

-- src/lib.rt:65:10
add-tree-2 : tie.Need-overflow_add-tree-2
add-tree-2 c = search rules

-- src/lib.rt:65:5
mul-tree-4 : tie.Need-offset_bounds-tree-count-2
mul-tree-4 c = search rules

-- src/lib.rt:65:5
slice-write-tree-2 : tie.Need-bounds-tree-count-2
slice-write-tree-2 c = simp length-set (omega arith)

-- src/lib.rt:66:19
cast-tree : tie.Need-overflow_cast-tree
cast-tree c = search rules

-- src/lib.rt:66:10
mul-tree-5 : tie.Need-overflow_mul-tree-3
mul-tree-5 c = search rules

-- src/lib.rt:66:5
mul-tree-6 : tie.Need-offset_bounds-tree-n-2
mul-tree-6 c = search rules

-- src/lib.rt:66:5
slice-write-tree-3 : tie.Need-bounds-tree-n-2
slice-write-tree-3 c = simp length-set (omega arith)

-- src/lib.rt:55:1
same-length-2 : tie.Need-shape_of-tree
same-length-2 c = search rules

-- src/lib.rt:55:1
returns-2 : tie.Need-returns
returns-2 c = λ b.
    step-grown _ _ b _ _ _ _ (omega arith) (omega arith) c.if-u-ne0.false c.letter.ensures (c.child-u.ensures b)

pub step_spec : {M : Type 1} → statement M
step_spec =
    tie.close
    (tie.spec
    child-requires
    same_length
    returns
    mul-before
    mul-before-2
    slice-read-before
    letter-requires
    mul-tree
    add-tree
    mul-tree-2
    slice-write-tree
    mul-tree-3
    add-tree-2
    mul-tree-4
    slice-write-tree-2
    cast-tree
    mul-tree-5
    mul-tree-6
    slice-write-tree-3
    same-length-2
    returns-2)
