-- `flat_engine::slots::copy` meets its contract. The loop's invariant: what is copied and what is left to copy make up the whole. Assumes
-- nothing.
use Prim.Native.Nat.{◌-◌}
use native.Mathlib.Omega.{arith}
use Rattle.image.specs.Gathering.{Gathering, gathering-start, Within, within, gathering-more, gathering-all}
use Rattle.flat_engine.proofs.slots.copy.Statement.{statement}
use Rattle.flat_engine.proofs.slots.copy.Tie as tie

abbrev invariant-loop : tie.invariant-loop-i
invariant-loop image from to source target scratch₀ i₀ scratch i = Gathering 0 image from to source target scratch₀ i scratch

abbrev decreases-loop : tie.decreases-loop-i
decreases-loop image from to source target scratch₀ i₀ scratch i = to - i

-- A turn, once its slot is read.
abbrev start : tie.After-entry invariant-loop decreases-loop → tie.Start invariant-loop decreases-loop
start c = c.before.before.before.before.before

turn : (c : tie.After-entry invariant-loop decreases-loop) → Within 0 (start c).requires c.loop-i.invariant c.entry.result
turn c = within 0 (start c).requires c.loop-i.invariant c.loop-i-test.true c.entry.ensures

pub copy_spec : {M : Type 1} → statement M
copy_spec =
    tie.close
    (tie.spec
    invariant-loop
    decreases-loop
    (λ c. gathering-start 0 c.requires)
    (λ c κs. omega (arith, c.requires.readable.inside))
    (λ c. let h = turn c in omega arith)
    (λ c. let h = turn c in omega arith)
    (λ c. let h = turn c.before in omega arith)
    (λ c. (turn c.before).after)
    (λ c. let h = turn c.before in omega arith)
    (λ c. let h = turn c.before in omega arith)
    (λ c. let h = turn c.before in omega arith)
    (λ c. omega arith)
    (λ c. omega arith)
    (λ c. gathering-more 0 (start c.before).requires c.loop-i.invariant c.loop-i-test.true c.entry.ensures)
    (λ c. c.loop-i.invariant.size)
    (λ c. gathering-all 0 c.requires c.loop-i.invariant c.loop-i-test.false))
