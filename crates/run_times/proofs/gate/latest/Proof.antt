-- `run_times::gate::latest` meets its contract. The loop's invariant, in each list: the latest so far and the latest of the arrivals that are
-- left give the latest of all. Assumes nothing.
use Prim.Native.Nat.{ℕ, ◌-◌, ◌<◌, max}
use mathlib.Core.Path.{◌≡◌, ap}
use mathlib.Core.List.{List, ◌∷◌}
use native.Mathlib.Omega.{arith}
use lib.ListN.{length, get_or}
use Rattle.meaning.specs.Figures.{largest}
use Rattle.run_walk.proofs.Reading.{Going, going_start, going-slot, going_more, going-all}
use Rattle.run_times.proofs.gate.latest.Statement.{statement}
use Rattle.run_times.proofs.gate.latest.Tie as tie

-- What is left to do with a list from place i on.
abbrev Left : (image : List ℕ) (from to : ℕ) (times : List ℕ) (i most : ℕ) → Type 0
Left image from to times i most = Going 0 image from to times i (λ xs. max most (largest xs)) largest

abbrev invariant-loop : tie.invariant-loop-i
invariant-loop image from to units others unit₀ family₀ i₀ unit family i = Left image from to units i unit × Left image from to others i family

abbrev decreases-loop : tie.decreases-loop-i
decreases-loop image from to units others unit₀ family₀ i₀ unit family i = to - i

abbrev turn : tie.After-entry-slot invariant-loop decreases-loop → tie.At-loop-i invariant-loop decreases-loop
turn c = c.before.before

loop-holds : tie.Need-loop-i-init invariant-loop decreases-loop
loop-holds c =
    let a = c.args in (
      going_start 0 a.image.now a.from a.to a.units.now c.requires.0.ordered (λ xs. omega arith),
      going_start 0 a.image.now a.from a.to a.others.now c.requires.1.ordered (λ xs. omega arith),
    )

-- The slot that was read is one of both lists.
slot-in-units : (c : tie.After-entry-slot invariant-loop decreases-loop) → c.entry-slot.result < length c.args.units.now
slot-in-units c = going-slot c.loop-i.invariant.0 c.requires.0 c.loop-i-test.true c.entry-slot.ensures

slot-in-others : (c : tie.After-entry-slot invariant-loop decreases-loop) → c.entry-slot.result < length c.args.others.now
slot-in-others c = going-slot c.loop-i.invariant.1 c.requires.1 c.loop-i-test.true c.entry-slot.ensures

-- The larger of the latest so far and of what stands at the slot.
later :
    (times : List ℕ) (most : ℕ) {next slot at : ℕ}
    → next ≡ max most (get_or times slot 0)
    → slot ≡ at
    → (xs : List ℕ)
    → max most (largest (get_or times at 0 ∷ xs)) ≡ max next (largest xs)
unfolding largest
later times most is same xs = omega (arith, is, ap (λ (slot : ℕ). get_or times slot 0) same)

loop-again : tie.Need-loop-i-preserved invariant-loop decreases-loop
loop-again c =
    let inv = c.loop-i.invariant in
    let taken = c.loop-i-test.true in (
      going_more inv.0 taken c.requires.0.inside (later c.args.units.now _ c.larger-unit.ensures c.entry-slot.ensures),
      going_more inv.1 taken c.requires.1.inside (later c.args.others.now _ c.larger-family.ensures c.entry-slot.ensures),
    )

returns : tie.Need-returns invariant-loop decreases-loop
unfolding largest
returns c =
    let l = c.loop-i in
    (omega (arith, going-all l.invariant.0 c.loop-i-test.false), omega (arith, going-all l.invariant.1 c.loop-i-test.false))

pub latest_spec : {M : Type 1} → statement M
latest_spec =
    tie.close
    (tie.spec
    invariant-loop
    decreases-loop
    loop-holds
    (λ c κs. omega (arith, c.requires.0.inside))
    (λ c. let h = slot-in-units c in omega arith)
    (λ c. slot-in-units c.before)
    (λ c κs. tt)
    (λ c. let h = slot-in-others c.before.before in omega arith)
    (λ c. slot-in-others c.before.before.before)
    (λ c κs. tt)
    (λ c. omega (arith, c.loop-i-test.true))
    (λ c. omega (arith, c.loop-i-test.true))
    loop-again
    returns)
