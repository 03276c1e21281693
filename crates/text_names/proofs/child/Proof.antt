use native.Mathlib.Omega.{arith}
use mathlib.Core.Path.{sym, ◌∙◌}
use borrow.Author.Rules.{rules}
use Rattle.text_names.specs.Along.{Along, along-first, along-falls, along-next, along-found, along-none}
use Rattle.text_names.proofs.child.Statement.{statement}
use Rattle.text_names.proofs.child.Tie as tie

abbrev invariant-loop : tie.invariant-loop-u
invariant-loop tree count n c sought u₀ u = Along tree count n c u

abbrev decreases-loop : tie.decreases-loop-u
decreases-loop tree count n c sought u₀ u = u

letter-requires : tie.Need-letter-sought-requires invariant-loop decreases-loop
letter-requires c κs = search rules

mul_wide : tie.Need-overflow_mul-n invariant-loop decreases-loop
mul_wide c = omega arith

mul-wide-2 : tie.Need-offset_bounds-tree-n invariant-loop decreases-loop
mul-wide-2 c = omega arith

shared-slice-read-wide : tie.Need-bounds-tree-n invariant-loop decreases-loop
shared-slice-read-wide c = omega arith

wide-requires : tie.Need-wide-u-requires invariant-loop decreases-loop
wide-requires c κs = search rules

loop-holds : tie.Need-loop-u-init invariant-loop decreases-loop
loop-holds c = along-first _ _ _ _ c.requires _ c.wide-u.ensures

mul-if1 : tie.Need-overflow_mul-u invariant-loop decreases-loop
mul-if1 c = omega arith

add-if1 : tie.Need-overflow_add-u invariant-loop decreases-loop
add-if1 c = omega arith

mul-if1-2 : tie.Need-offset_bounds-tree-u invariant-loop decreases-loop
mul-if1-2 c = omega arith

shared-slice-read-if1 : tie.Need-bounds-tree-u invariant-loop decreases-loop
shared-slice-read-if1 c = omega arith

returns : tie.Need-returns-then-tree-u invariant-loop decreases-loop
returns c =
    along-found _ _ _ _ c.requires c.loop-u.u (c.if-tree-u.true ∙ c.letter-sought.ensures) (omega arith) c.loop-u.invariant

mul-wide-3 : tie.Need-overflow_mul-u-in-loop-u invariant-loop decreases-loop
mul-wide-3 c = omega arith

add_wide : tie.Need-overflow_add-u-in-loop-u invariant-loop decreases-loop
add_wide c = omega arith

mul-wide-4 : tie.Need-offset_bounds-tree-u-in-loop-u invariant-loop decreases-loop
mul-wide-4 c = omega arith

shared-slice-read-wide-2 : tie.Need-bounds-tree-u-in-loop-u invariant-loop decreases-loop
shared-slice-read-wide-2 c = omega arith

wide-requires-2 : tie.Need-wide-u-requires-in-loop-u invariant-loop decreases-loop
wide-requires-2 c κs = search rules

loop-less : tie.Need-loop-u-smaller invariant-loop decreases-loop
loop-less c =
    let l : _ = along-falls _ _ _ _ c.requires c.loop-u.u (omega arith) c.loop-u.invariant in
    omega (arith, l, c.wide-u-in-loop-u.ensures)

loop-again : tie.Need-loop-u-preserved invariant-loop decreases-loop
loop-again c =
    along-next _ _ _ _ c.requires c.loop-u.u _ (omega arith)
    (λ e. c.if-tree-u.false (e ∙ sym c.letter-sought.ensures))
    c.wide-u-in-loop-u.ensures
    c.loop-u.invariant

returns-2 : tie.Need-returns invariant-loop decreases-loop
returns-2 c =
    along-none _ _ _ _ c.requires c.loop-u.u c.loop-u-test.false c.loop-u.invariant

pub child_spec : {M : Type 1} → statement M
child_spec =
    tie.close
    (tie.spec
    invariant-loop
    decreases-loop
    letter-requires
    mul_wide
    mul-wide-2
    shared-slice-read-wide
    wide-requires
    loop-holds
    mul-if1
    add-if1
    mul-if1-2
    shared-slice-read-if1
    returns
    mul-wide-3
    add_wide
    mul-wide-4
    shared-slice-read-wide-2
    wide-requires-2
    loop-less
    loop-again
    returns-2)
