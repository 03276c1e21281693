-- `image::buffers::clear` meets its contract. The loop's invariant: the entries passed are 0, the others as they were. Assumes nothing.
use Prim.Native.Nat.{◌-◌, ◌≤◌}
use mathlib.Core.Path.{◌≡◌, refl, ap, ◌∙◌}
use mathlib.Core.List.{◌++◌}
use native.Mathlib.Omega.{arith}
use borrow.Author.Fill.{fill_none, fill_more}
use lib.ListN.{length, drop, set, replicate, length-set}
use Rattle.image.proofs.buffers.clear.Statement.{statement}
use Rattle.image.proofs.buffers.clear.Tie as tie

abbrev invariant-loop : tie.invariant-loop-i
invariant-loop entries scratch₀ i₀ scratch i = (i ≤ entries) × (length scratch ≡ length scratch₀) × (scratch ≡ replicate i 0 ++ drop i scratch₀)

abbrev decreases-loop : tie.decreases-loop-i
decreases-loop entries scratch₀ i₀ scratch i = entries - i

loop-holds : tie.Need-loop-i-init invariant-loop decreases-loop
loop-holds c = (omega arith, refl, fill_none _ 0)

loop-again : tie.Need-loop-i-preserved invariant-loop decreases-loop
loop-again c =
    let head = c.loop-i in (
      omega arith,
      length-set head.scratch head.i 0 ∙ head.invariant.1,
      ap (λ s. set s head.i 0) head.invariant.2 ∙ fill_more head.i 0 _ (omega arith),
    )

returns : tie.Need-returns invariant-loop decreases-loop
returns c =
    let all : c.loop-i.i ≡ c.args.entries = omega arith in
    rw all at c.loop-i.invariant.2

pub clear_spec : {M : Type 1} → statement M
clear_spec =
    tie.close
    (tie.spec
    invariant-loop
    decreases-loop
    loop-holds
    (λ c. omega arith)
    (λ c. omega arith)
    (λ c. omega arith)
    (λ c. omega arith)
    loop-again
    (λ c. c.loop-i.invariant.1)
    returns)
