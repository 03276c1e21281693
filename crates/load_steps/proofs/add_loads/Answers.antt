-- What `add_loads` meets. Assumes nothing.
use Prim.Native.Nat.{ℕ, ◌+◌, ◌-◌}
use mathlib.Core.Path.{◌≡◌}
use mathlib.Core.Bool.{Bool, true, false, cond}
use lib.ListN.{get_or}
use Rattle.load_steps.proofs.Placing.{place-fits, more-placed, all_placed}
use Rattle.load_steps.proofs.add_loads.Goals as goal
use Rattle.load_steps.proofs.add_loads.Goals.{then-inside, else-inside}

-- By the branch: what a place adds, and that the loads of a module's inputs are there.
of-input : {inside : Bool} {input load : ℕ} → inside ≡ true → load ≡ input → load ≡ cond inside input 1
of-input is e = rw is e

of-gate : {inside : Bool} (input : ℕ) {load : ℕ} → inside ≡ false → load ≡ 1 → load ≡ cond inside input 1
of-gate input is e = rw is e

pub overflow_add-scratch : goal.overflow_add-scratch
overflow_add-scratch c =
    let p = c.requires in
    let load_is : c.if-inside.load ≡ cond c.args.inside (get_or c.args.loads.now (c.args.first + (c.loop-i.i - c.args.from)) 0) 1 =
    elim c.if-inside.branch [ then-inside w ↦ of-input w.if-inside.true w.load-is | else-inside w ↦ of-gate _ w.if-inside.false w.load-is ]
    in
    record { fits = place-fits p (c.loop-i.invariant p) c.loop-i-test.true c.entry-slot.ensures load_is }

pub loop-i-preserved : goal.loop-i-preserved
loop-i-preserved c p =
    more-placed p (c.loop-i.invariant p) c.loop-i-test.true c.entry-slot.ensures
    (elim c.if-inside.branch [ then-inside w ↦ of-input w.if-inside.true w.load-is | else-inside w ↦ of-gate _ w.if-inside.false w.load-is ])

pub returns : goal.returns
returns c p = all_placed p c.loop-i-test.false (c.loop-i.invariant p)
