use native.Mathlib.Omega.{arith}
use Rattle.text_desk.specs.Paper.{tests-modules, tests-body, tests-none, tested-first, tested-body}
use Rattle.text_desk.proofs.is_full.Statement.{statement}
use Rattle.text_desk.proofs.is_full.Tie as tie
use Rattle.text_desk.proofs.is_full.Reads as reads
use Rattle.text_desk.proofs.is_full.Lts as lts

-- src/lib.rt:21:23
shared-slice-read-result : tie.Need-bounds-numbers-0
shared-slice-read-result c = tested-first _ _ _ c.requires c.if-mode-eq2.true

-- src/lib.rt:21:9
returns : tie.Need-returns-then-mode-eq2
returns c = tests-modules _ _ _ c.requires c.if-mode-eq2.true

-- src/lib.rt:25:24
mul-result : tie.Need-offset_bounds-numbers-body
mul-result c = let l : _ = tested-body _ _ _ c.requires c.if-mode-eq9.true in omega arith

-- src/lib.rt:25:24
shared-slice-read-result-2 : tie.Need-bounds-numbers-body
shared-slice-read-result-2 c = tested-body _ _ _ c.requires c.if-mode-eq9.true

-- src/lib.rt:25:9
returns-2 : tie.Need-returns-then-mode-eq9
returns-2 c = tests-body _ _ _ c.requires c.if-mode-eq9.true

-- src/lib.rt:16:1
returns-3 : tie.Need-returns
returns-3 c = tests-none c.args.numbers.now c.args.marks _ c.if-mode-eq2.false c.if-mode-eq9.false

pub is_full_spec : {M : Type 1} → statement M
is_full_spec =
    tie.close
    (tie.spec
    shared-slice-read-result
    returns
    mul-result
    shared-slice-read-result-2
    returns-2
    returns-3)
