use Prim.Native.Nat.{◌-◌}
use native.Mathlib.Omega.{arith}
use mathlib.Core.Path.{refl, sym, ◌∙◌}
use borrow.Author.Rules.{rules}
use Rattle.text_words.proofs.Steps.{Left, same-apart, same-on, same_none, same_length}
use Rattle.text_words.proofs.is_same.Statement.{statement}
use Rattle.text_words.proofs.is_same.Tie as tie

abbrev invariant-loop : tie.invariant-loop-i
invariant-loop one other i₀ i-end i = Left one other i

abbrev decreases-loop : tie.decreases-loop-i
decreases-loop one other i₀ i-end i = i-end - i

-- src/lib.rt:169:9
returns : tie.Need-returns-then-one-other invariant-loop decreases-loop
returns c = let asked = c.args in same_length asked.one.now asked.other.now c.if-one-other.true

-- src/lib.rt:171:5
loop-holds : tie.Need-loop-i-init invariant-loop decreases-loop
loop-holds c = refl

-- src/lib.rt:172:22
shared-slice-read-is-alike : tie.Need-bounds-one-i invariant-loop decreases-loop
shared-slice-read-is-alike c = omega arith

-- src/lib.rt:172:30
shared-slice-read-is-alike-2 : tie.Need-bounds-other-i invariant-loop decreases-loop
shared-slice-read-is-alike-2 c = omega arith

-- src/lib.rt:172:13
is-alike-requires : tie.Need-is_alike-requires invariant-loop decreases-loop
is-alike-requires c κs = search rules

-- src/lib.rt:173:13
returns-2 : tie.Need-returns-then-not-is_alike invariant-loop decreases-loop
returns-2 c =
    let asked = c.args in
    same-apart asked.one.now asked.other.now c.loop-i.i c.if-one-other.false c.loop-i-test.true c.loop-i.invariant _ c.is_alike.ensures c.if-not-is_alike.true

-- src/lib.rt:171:9
add-i : tie.Need-overflow_step-i invariant-loop decreases-loop
add-i c = omega arith

-- src/lib.rt:171:5
loop-less : tie.Need-loop-i-smaller invariant-loop decreases-loop
loop-less c = omega arith

-- src/lib.rt:171:5
loop-again : tie.Need-loop-i-preserved invariant-loop decreases-loop
loop-again c =
    let asked = c.args in
    same-on asked.one.now asked.other.now c.loop-i.i c.if-one-other.false c.loop-i-test.true c.loop-i.invariant _ c.is_alike.ensures c.if-not-is_alike.false

-- src/lib.rt:165:1
returns-3 : tie.Need-returns invariant-loop decreases-loop
returns-3 c =
    let asked = c.args in
    sym (c.loop-i.invariant ∙ same_none asked.one.now asked.other.now c.loop-i.i c.if-one-other.false c.loop-i-test.false)

pub is_same_spec : {M : Type 1} → statement M
is_same_spec =
    tie.close
    (tie.spec
    invariant-loop
    decreases-loop
    returns
    loop-holds
    shared-slice-read-is-alike
    shared-slice-read-is-alike-2
    is-alike-requires
    returns-2
    add-i
    loop-less
    loop-again
    returns-3)
