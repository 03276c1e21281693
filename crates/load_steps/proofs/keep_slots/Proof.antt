-- `load_steps::keep_slots` meets its contract. The loop's invariant: the entries passed are kept. Assumes nothing.
use Prim.Native.Nat.{◌-◌, ◌≤◌, ◌<◌}
use native.Mathlib.Omega.{arith}
use lib.ListN.{length}
use Rattle.image.specs.Slots.{Readable}
use Rattle.load_steps.proofs.Keeping.{Keeping, none_kept, slot-inside, more-kept, all-kept}
use Rattle.load_steps.proofs.keep_slots.Statement.{statement}
use Rattle.load_steps.proofs.keep_slots.Tie as tie

abbrev invariant-loop : tie.invariant-loop-i
invariant-loop image from to scratch loads₀ i₀ loads i =
    (r : Readable image from to 0 (length scratch)) (there : to ≤ length loads₀) → Keeping scratch r loads₀ there i loads

abbrev decreases-loop : tie.decreases-loop-i
decreases-loop image from to scratch loads₀ i₀ loads i = to - i

slot-there : (c : tie.After-entry-slot invariant-loop decreases-loop) → c.entry-slot.result < length c.args.scratch.now
slot-there c =
    let pre = c.requires in
    slot-inside _ pre.0 _ pre.1 (c.loop-i.invariant pre.0 pre.1) c.loop-i-test.true c.entry-slot.ensures

place-there : (c : tie.After-entry-slot invariant-loop decreases-loop) → c.loop-i.i < length c.loop-i.loads
place-there c =
    let pre = c.requires in
    omega (arith, c.loop-i-test.true, (c.loop-i.invariant pre.0 pre.1).long)

loop-again : tie.Need-loop-i-preserved invariant-loop decreases-loop
loop-again c r there =
    more-kept _ r _ there (c.loop-i.invariant r there) c.loop-i-test.true c.entry-slot.ensures

pub keep_slots_spec : {M : Type 1} → statement M
keep_slots_spec =
    tie.close
    (tie.spec
    invariant-loop
    decreases-loop
    (λ c r there. none_kept _ r _ there)
    (λ c κs. omega (arith, c.requires.0.inside))
    (λ c. omega (arith, slot-there c))
    (λ c. slot-there c.before)
    (λ c. omega (arith, place-there c.before))
    (λ c. place-there c.before)
    (λ c. omega arith)
    (λ c. omega arith)
    loop-again
    (λ c. let pre = c.requires in (c.loop-i.invariant pre.0 pre.1).long)
    (λ c. let pre = c.requires in all-kept _ pre.0 _ pre.1 c.loop-i-test.false (c.loop-i.invariant pre.0 pre.1)))
