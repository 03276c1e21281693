-- The first index of the whole is where the search stands plus the first index of what is left.
use Prim.Native.Nat.{ℕ, suc, ◌+◌, ◌-◌, ◌≤◌, ◌<◌}
use mathlib.Core.Path.{◌≡◌, sym, ap}
use mathlib.Core.List.{List}
use native.Mathlib.Omega.{arith}
use native.Mathlib.Numerals.{add-one}
use lib.ListN.{length, get_or, drop, drop_of_length-le}
use lib.Seq.{drop-cons}
use borrow.Author.Tests.{le-leb, lt-leb}
use Rattle.meaning.specs.Values.{floating}
use Rattle.meaning.specs.Calls.{first_above}
use Rattle.call_evaluate.proofs.values.first_above.Statement.{statement}
use Rattle.call_evaluate.proofs.values.first_above.Tie as tie

abbrev invariant-loop : tie.invariant-loop-i
invariant-loop values i₀ i = (i ≤ length values) × (first_above values ≡ i + first_above (drop i values))

abbrev decreases-loop : tie.decreases-loop-i
decreases-loop values i₀ i = length values - i

module _ (values : List ℕ) (i : ℕ) (inside : i < length values) where
  above : floating < get_or values i 0 → first_above (drop i values) ≡ 0
  unfolding first_above
  above h = rw (drop-cons values i 0 inside, lt-leb (get_or values i 0) floating h)

  below : get_or values i 0 ≤ floating → first_above (drop i values) ≡ suc (first_above (drop (i + 1) values))
  unfolding first_above
  below h = rw (add-one i, drop-cons values i 0 inside, le-leb (get_or values i 0) floating h)

none : (values : List ℕ) (i : ℕ) → length values ≤ i → first_above (drop i values) ≡ 0
unfolding first_above
none values i h = ap first_above (drop_of_length-le values h)

loop-holds : tie.Need-loop-i-init invariant-loop decreases-loop
loop-holds c = (omega arith, sym (omega arith))

shared-slice-read-if1 : tie.Need-bounds-values-i invariant-loop decreases-loop
shared-slice-read-if1 c = omega arith

returns : tie.Need-returns-then-values-i-gt-FLOATING invariant-loop decreases-loop
returns c =
    let l = c.loop-i in
    let v = c.args.values.now in
    omega (arith, above v l.i c.loop-i-test.true c.if-values-i-gt-FLOATING.true)

add-i : tie.Need-overflow_add-i invariant-loop decreases-loop
add-i c = omega arith

loop-less : tie.Need-loop-i-smaller invariant-loop decreases-loop
loop-less c = omega arith

loop-again : tie.Need-loop-i-preserved invariant-loop decreases-loop
loop-again c =
    let l = c.loop-i in
    let v = c.args.values.now in
    (omega arith, omega (arith, below v l.i c.loop-i-test.true c.if-values-i-gt-FLOATING.false))

returns-2 : tie.Need-returns invariant-loop decreases-loop
returns-2 c =
    let l = c.loop-i in
    let v = c.args.values.now in
    omega (arith, none v l.i c.loop-i-test.false)

pub first_above_spec : {M : Type 1} → statement M
first_above_spec =
    tie.close
    (tie.spec
    invariant-loop
    decreases-loop
    loop-holds
    shared-slice-read-if1
    returns
    add-i
    loop-less
    loop-again
    returns-2)
