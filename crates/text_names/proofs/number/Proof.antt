use native.Mathlib.Omega.{arith}
use borrow.Author.Rules.{rules}
use Rattle.text_names.specs.Entering.{walkable, ended, was-known, none_left, next-given}
use Rattle.text_names.proofs.number.Statement.{statement}
use Rattle.text_names.proofs.number.Tie as tie

abbrev walked : tie.After-wide-given → tie.After-walk-reach
walked k = k.before.before.before.before

walk-requires : tie.Need-walk-reach-requires
walk-requires c κs = walkable _ _ _ _ _ c.requires

mul_wide : tie.Need-overflow_mul-node
mul_wide c = let l : _ = (ended _ _ _ _ _ c.requires _ _ _ c.walk-reach.ensures).room in omega arith

add_wide : tie.Need-overflow_add-node
add_wide c = let l : _ = (ended _ _ _ _ _ c.requires _ _ _ c.walk-reach.ensures).room in omega arith

mul-wide-2 : tie.Need-offset_bounds-tree-node
mul-wide-2 c = let l : _ = (ended _ _ _ _ _ c.requires _ _ _ c.walk-reach.ensures).room in omega arith

slice-read-wide : tie.Need-bounds-tree-node
slice-read-wide c = let l : _ = (ended _ _ _ _ _ c.requires _ _ _ c.walk-reach.ensures).room in omega arith

wide-requires : tie.Need-wide-given-requires
wide-requires c κs = search rules

sub-t17 : tie.Need-overflow_sub-result
sub-t17 c = search rules

same_length : tie.Need-shape_of-tree-then-given-ne0
same_length c = search rules

returns : tie.Need-returns-then-given-ne0
returns c =
    was-known _ _ _ _ _ c.requires _ _ _ c.walk-reach.ensures c.wide-given.result c.wide-given.ensures (omega arith)

same-length-2 : tie.Need-shape_of-tree-then-known-ge16384
same-length-2 c = search rules

returns-2 : tie.Need-returns-then-known-ge16384
returns-2 c =
    none_left _ _ _ _ _ c.requires _ _ _ c.walk-reach.ensures c.wide-given.result c.wide-given.ensures c.if-given-ne0.false (omega arith)

add-tree : tie.Need-overflow_add-tree
add-tree c = search rules

cast-tree : tie.Need-overflow_cast-tree
cast-tree c = search rules

mul-tree : tie.Need-overflow_mul-tree
mul-tree c = let l : _ = (ended _ _ _ _ _ c.requires _ _ _ c.walk-reach.ensures).room in omega arith

add-tree-2 : tie.Need-overflow_add-tree-2
add-tree-2 c = let l : _ = (ended _ _ _ _ _ c.requires _ _ _ c.walk-reach.ensures).room in omega arith

mul-tree-2 : tie.Need-offset_bounds-tree-node-2
mul-tree-2 c = let l : _ = (ended _ _ _ _ _ c.requires _ _ _ c.walk-reach.ensures).room in omega arith

slice-write-tree : tie.Need-bounds-tree-node-2
slice-write-tree c = let l : _ = (ended _ _ _ _ _ c.requires _ _ _ c.walk-reach.ensures).room in omega arith

same-length-3 : tie.Need-shape_of-tree
same-length-3 c = search rules

returns-3 : tie.Need-returns
returns-3 c =
    next-given _ _ _ _ _ c.requires _ _ _ c.walk-reach.ensures c.wide-given.result c.wide-given.ensures c.if-given-ne0.false (omega arith)

pub number_spec : {M : Type 1} → statement M
number_spec =
    tie.close
    (tie.spec
    walk-requires
    mul_wide
    add_wide
    mul-wide-2
    slice-read-wide
    wide-requires
    sub-t17
    same_length
    returns
    same-length-2
    returns-2
    add-tree
    cast-tree
    mul-tree
    add-tree-2
    mul-tree-2
    slice-write-tree
    same-length-3
    returns-3)
