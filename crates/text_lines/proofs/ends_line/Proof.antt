use native.Mathlib.Omega.{arith}
use Rattle.text_lines.proofs.Walks.{feed-ends, other_not, return_last, return_next}
use borrow.Author.Rules.{rules}
use Rattle.text_lines.proofs.ends_line.Statement.{statement}
use Rattle.text_lines.proofs.ends_line.Tie as tie

-- src/lib.rt:12:8
shared-slice-read-if1 : tie.Need-bounds-text-i
shared-slice-read-if1 c = search rules

-- src/lib.rt:13:9
returns : tie.Need-returns-then-text-i-eq10
returns c = feed-ends _ _ c.if-text-i-eq10.true

-- src/lib.rt:15:8
shared-slice-read-if2 : tie.Need-bounds-text-i-2
shared-slice-read-if2 c = search rules

-- src/lib.rt:16:9
returns-2 : tie.Need-returns-then-text-i-ne13
returns-2 c = other_not _ _ c.if-text-i-eq10.false c.if-text-i-ne13.true

-- src/lib.rt:18:16
add-next : tie.Need-overflow_add-next
add-next c = search rules

-- src/lib.rt:20:9
returns-3 : tie.Need-returns-then-next-text
returns-3 c = return_last _ _ c.if-text-i-ne13.false (omega arith)

-- src/lib.rt:22:5
shared-slice-read-result : tie.Need-bounds-text-next
shared-slice-read-result c = search rules

-- src/lib.rt:8:1
returns-4 : tie.Need-returns
returns-4 c = return_next _ _ c.if-text-i-ne13.false

pub ends_line_spec : {M : Type 1} → statement M
ends_line_spec =
    tie.close
    (tie.spec
    shared-slice-read-if1
    returns
    shared-slice-read-if2
    returns-2
    add-next
    returns-3
    shared-slice-read-result
    returns-4)
