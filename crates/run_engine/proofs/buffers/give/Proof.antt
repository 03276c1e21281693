-- `run_engine::buffers::give` meets its contract. The loop's invariant: the values passed stand at the front of the buffer. Assumes nothing.
use Prim.Native.Nat.{ℕ, ◌+◌, ◌-◌, ◌<◌}
use mathlib.Core.Path.{◌≡◌, sym, ap, ◌∙◌}
use native.Mathlib.Omega.{arith}
use lib.ListN.{length, get_or}
use Rattle.laws.specs.Lists.{all-at}
use Rattle.image.specs.Slots.{values_at}
use Rattle.image.specs.Reading.{length-of-values, value-at}
use Rattle.run_engine.proofs.Front.{Front, front-none, front-more, front-all}
use Rattle.run_engine.proofs.buffers.give.Statement.{statement}
use Rattle.run_engine.proofs.buffers.give.Tie as tie

abbrev invariant-loop : tie.invariant-loop-i
invariant-loop image from to scratch out₀ count i₀ out i = Front (values_at 0 image from to 0 scratch) out₀ out i

abbrev decreases-loop : tie.decreases-loop-i
decreases-loop image from to scratch out₀ count i₀ out i = count - i

loop-holds : tie.Need-loop-i-init invariant-loop decreases-loop
loop-holds c =
    let a = c.args in
    front-none (values_at 0 a.image.now a.from a.to 0 a.scratch.now) a.out.now

entry-requires : tie.Need-entry-requires invariant-loop decreases-loop
entry-requires c κs = omega (arith, c.requires.readable.inside)

-- The slot is one of scratch,
slot-inside : (c : tie.After-entry invariant-loop decreases-loop) → c.entry.result < length c.args.scratch.now
slot-inside c =
    omega
    (arith, c.entry.ensures, c.requires.readable.slots (c.args.from + c.loop-i.i) (omega arith) (omega (arith, c.loop-i-test.true)))

-- and its value the one whose turn it is.
value :
    (c : tie.After-entry invariant-loop decreases-loop)
    → let a = c.args in
    get_or a.scratch.now c.entry.result 0 ≡ get_or (values_at 0 a.image.now a.from a.to 0 a.scratch.now) c.loop-i.i 0
value c =
    let a = c.args in
    ap (λ (slot : ℕ). get_or a.scratch.now slot 0) c.entry.ensures
    ∙ sym (value-at 0 a.image.now a.from a.to a.scratch.now c.loop-i.i c.loop-i-test.true c.requires.readable.inside)

-- There are as many values as places.
all-values :
    (c : tie.At-loop-i invariant-loop decreases-loop)
    → let a = c.args in
    length (values_at 0 a.image.now a.from a.to 0 a.scratch.now) ≡ a.to - a.from
all-values c =
    let a = c.args in
    length-of-values 0 a.image.now a.from a.to 0 a.scratch.now c.requires.readable.inside

cast-out : tie.Need-overflow_cast-out invariant-loop decreases-loop
cast-out c =
    let i = c.loop-i.i in
    omega
    (arith, value c.before, all-at c.requires.bytes i 0 (omega (arith, all-values c.before.before.before, c.loop-i-test.true)))

slice-write-out : tie.Need-bounds-out-i invariant-loop decreases-loop
slice-write-out c =
    omega (arith, c.loop-i.invariant.size, c.requires.room, c.loop-i-test.true)

loop-again : tie.Need-loop-i-preserved invariant-loop decreases-loop
loop-again c =
    let taken = c.loop-i-test.true in
    front-more c.loop-i.invariant (omega (arith, all-values c.before.before.before, taken)) (omega (arith, c.requires.room, taken)) (value c.before)

returns : tie.Need-returns invariant-loop decreases-loop
returns c = front-all c.loop-i.invariant (omega (arith, all-values c.before, c.loop-i-test.false))

pub give_spec : {M : Type 1} → statement M
give_spec =
    tie.close
    (tie.spec
    invariant-loop
    decreases-loop
    (λ c. c.requires.readable.ordered)
    loop-holds
    (λ c. omega (arith, c.ranges.from.fits))
    entry-requires
    (λ c. let h = slot-inside c in omega arith)
    (λ c. slot-inside c.before)
    cast-out
    slice-write-out
    (λ c. omega arith)
    (λ c. omega arith)
    loop-again
    (λ c. c.loop-i.invariant.size)
    returns)
