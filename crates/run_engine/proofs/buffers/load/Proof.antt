-- `run_engine::buffers::load` meets its contract. The loop's invariant: what the values passed entered as stands at the front of scratch.
-- Assumes nothing.
use Prim.Native.Nat.{ℕ, ◌-◌, ◌<◌}
use mathlib.Core.Path.{sym, ap, ◌∙◌}
use mathlib.Core.List.{◌++◌, map}
use native.Mathlib.Omega.{arith}
use lib.ListN.{length, drop, length-map}
use Rattle.run_engine.specs.Slots.{entered}
use Rattle.run_engine.proofs.Entering.{entry_at}
use Rattle.run_engine.proofs.Front.{Front, front-none, front-more, front-all}
use Rattle.run_engine.proofs.buffers.load.Statement.{statement}
use Rattle.run_engine.proofs.buffers.load.Tie as tie

abbrev invariant-loop : tie.invariant-loop-i
invariant-loop values scratch₀ i₀ i-end scratch i = Front (map entered values) scratch₀ scratch i

abbrev decreases-loop : tie.decreases-loop-i
decreases-loop values scratch₀ i₀ i-end scratch i = length values - i

loop-holds : tie.Need-loop-i-init invariant-loop decreases-loop
loop-holds c =
    front-none (map entered c.args.values.now) c.args.scratch.now

-- In a turn the entry is one of scratch.
inside : (c : tie.After-entered invariant-loop decreases-loop) → c.loop-i.i < length c.loop-i.scratch
inside c =
    omega (arith, c.loop-i.invariant.size, c.requires, c.loop-i-test.true)

loop-again : tie.Need-loop-i-preserved invariant-loop decreases-loop
loop-again c =
    let values = c.args.values.now in
    front-more c.loop-i.invariant (omega (arith, c.loop-i-test.true, length-map values entered))
    (omega (arith, c.requires, c.loop-i-test.true))
    (c.entered.ensures ∙ sym (entry_at values c.loop-i.i))

returns : tie.Need-returns invariant-loop decreases-loop
returns c =
    let values = c.args.values.now in
    let long = length-map values entered in
    front-all c.loop-i.invariant (omega (arith, c.loop-i-test.false, long))
    ∙ ap (λ (n : ℕ). map entered values ++ drop n c.args.scratch.now) long

pub load_spec : {M : Type 1} → statement M
load_spec =
    tie.close
    (tie.spec
    invariant-loop
    decreases-loop
    loop-holds
    (λ c. omega arith)
    (λ c κs. tt)
    (λ c. let h = inside c in omega arith)
    inside
    (λ c. omega arith)
    (λ c. omega arith)
    loop-again
    (λ c. c.loop-i.invariant.size)
    returns)
