-- The loop's invariant: the bytes passed are copied.
use Prim.Native.Nat.{◌-◌, ◌≤◌}
use mathlib.Core.Path.{◌≡◌}
use native.Mathlib.Omega.{arith}
use Rattle.image.specs.Copies.{Copying, none-copied, more-copied}
use Rattle.flat_ending.proofs.copy.Statement.{statement}
use Rattle.flat_ending.proofs.copy.Tie as tie

abbrev invariant-loop : tie.invariant-loop-i
invariant-loop bytes from count out₀ at i₀ out i = (i ≤ count) × Copying bytes from out₀ at i out

abbrev decreases-loop : tie.decreases-loop-i
decreases-loop bytes from count out₀ at i₀ out i = count - i

loop-again : tie.Need-loop-i-preserved invariant-loop decreases-loop
loop-again c = (omega arith, more-copied (omega arith) (omega arith) c.loop-i.invariant.1)

returns : tie.Need-returns invariant-loop decreases-loop
returns c =
    let all : c.loop-i.i ≡ c.args.count = omega arith in
    rw all at c.loop-i.invariant.1.is

pub copy_spec : {M : Type 1} → statement M
copy_spec =
    tie.close
    (tie.spec
    invariant-loop
    decreases-loop
    (λ c. (omega arith, none-copied _ _ _ _))
    (λ c. omega arith)
    (λ c. omega arith)
    (λ c. omega arith)
    (λ c. omega arith)
    (λ c. omega arith)
    (λ c. omega arith)
    loop-again
    (λ c. c.loop-i.invariant.1.long)
    returns)
