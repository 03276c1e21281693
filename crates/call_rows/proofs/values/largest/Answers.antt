-- What `call_rows::values::largest` meets: a larger value is taken at each turn, and none is left at the end. Assumes nothing.
use Prim.Native.Nat.{ℕ, ◌+◌, ◌≤◌, ◌<◌, max}
use mathlib.Core.Path.{◌≡◌, ap}
use mathlib.Core.List.{List}
use native.Mathlib.Omega.{arith}
use native.Mathlib.Numerals.{add-one}
use lib.ListN.{length, get_or, drop, drop_of_length-le}
use lib.Seq.{drop-cons}
use Rattle.meaning.specs.Figures.{largest}
use Rattle.call_rows.proofs.values.largest.Goals as goal
use Rattle.call_rows.proofs.values.largest.Goals.{then-most-x, else-most-x}

next : (values : List ℕ) (i : ℕ) → i < length values → largest (drop i values) ≡ max (get_or values i 0) (largest (drop (i + 1) values))
unfolding largest
next values i inside = rw (add-one i, drop-cons values i 0 inside)

end : (values : List ℕ) (i : ℕ) → length values ≤ i → largest (drop i values) ≡ 0
unfolding largest
end values i h = ap largest (drop_of_length-le values h)

pub loop-i-preserved : goal.loop-i-preserved
loop-i-preserved c =
    let here = next c.args.values.now c.loop-i.i c.loop-i-test.true in
    elim c.if-most-x.branch [
      | then-most-x w ↦ omega (arith, here, c.loop-i.invariant, w.if-most-x.true, w.most-is)
      | else-most-x w ↦ omega (arith, here, c.loop-i.invariant, w.if-most-x.false, w.most-is)
    ]

pub returns : goal.returns
returns c = omega (arith, end c.args.values.now c.loop-i.i c.loop-i-test.false, c.loop-i.invariant)
