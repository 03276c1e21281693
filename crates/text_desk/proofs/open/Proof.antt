use native.Mathlib.Omega.{arith}
use mathlib.Core.Logic.{inl, inr}
use Rattle.text_desk.specs.Paper.{first_raisable, body_raisable, opens_none, opens_module, opens_occurrence, opens_body, opens_list}
use borrow.Author.Rules.{rules}
use Rattle.text_desk.proofs.open.Statement.{statement}
use Rattle.text_desk.proofs.open.Tie as tie
use Rattle.text_desk.proofs.open.Reads as reads
use Rattle.text_desk.proofs.open.Lts as lts
use Rattle.text_desk.proofs.raise.Reads as raise-reads

-- src/lib.rt:48:13
raise-requires : tie.Need-raise-requires
raise-requires c κs = first_raisable _ _ _ c.requires c.in-2.is

-- src/lib.rt:52:13
raise-requires-2 : tie.Need-raise-requires-in-9
raise-requires-2 c κs = body_raisable _ _ _ c.requires c.in-9.is

-- src/lib.rt:56:13
mul-numbers : tie.Need-offset_bounds-numbers-at
mul-numbers c = search rules

-- src/lib.rt:56:13
slice-write-numbers : tie.Need-bounds-numbers-at
slice-write-numbers c = search rules

-- src/lib.rt:58:21
add-t13 : tie.Need-overflow_add-result
add-t13 c = search rules

-- src/lib.rt:64:13
mul-numbers-2 : tie.Need-offset_bounds-numbers-at-in_default
mul-numbers-2 c = search rules

-- src/lib.rt:64:13
slice-write-numbers-2 : tie.Need-bounds-numbers-at-in_default
slice-write-numbers-2 c = search rules

-- src/lib.rt:66:21
add-t15 : tie.Need-overflow_add-result-in_default
add-t15 c = search rules

-- src/lib.rt:39:1
returns : tie.Need-returns-in-4
returns c = opens_none _ _ _ c.requires c.in-4.is

-- src/lib.rt:39:1
same_length : tie.Need-shape_of-numbers-in-2
same_length c = search rules

-- src/lib.rt:39:1
returns-2 : tie.Need-returns-in-2
returns-2 c = opens_module _ _ _ c.requires c.in-2.is _ c.raise.ensures

-- src/lib.rt:39:1
same-length-2 : tie.Need-shape_of-numbers-in-9
same-length-2 c = search rules

-- src/lib.rt:39:1
returns-3 : tie.Need-returns-in-9
returns-3 c = opens_occurrence _ _ _ c.requires c.in-9.is _ c.raise-in-9.ensures

-- src/lib.rt:39:1
same-length-3 : tie.Need-shape_of-numbers-in-8
same-length-3 c = search rules

-- src/lib.rt:39:1
returns-4 : tie.Need-returns-in-8
returns-4 c = opens_body _ _ _ c.requires c.in-8.is

-- src/lib.rt:39:1
same-length-4 : tie.Need-shape_of-numbers-in_default
same-length-4 c = search rules

-- src/lib.rt:39:1
returns-5 : tie.Need-returns-in_default
returns-5 c = opens_list _ _ _ c.requires (λ e. c.in_default.in_default-own.rest.0.0.0.1 (inl e)) (λ e. c.in_default.in_default-own.rest.0.0.0.1 (inr e)) c.in_default.in_default-own.rest.0.0.1 c.in_default.in_default-own.rest.0.1 c.in_default.in_default-own.rest.1

pub open_spec : {M : Type 1} → statement M
open_spec =
    tie.close
    (tie.spec
    raise-requires
    raise-requires-2
    mul-numbers
    slice-write-numbers
    add-t13
    mul-numbers-2
    slice-write-numbers-2
    add-t15
    returns
    same_length
    returns-2
    same-length-2
    returns-3
    same-length-3
    returns-4
    same-length-4
    returns-5)
