-- `pieces::run` meets its contract. The loop's invariant: what is laid and what is left make the run. Assumes nothing.
use Prim.Native.Nat.{◌+◌, ◌-◌, ◌≤◌}
use native.Mathlib.Omega.{arith}
use mathlib.Core.Path.{◌≡◌}
use mathlib.Core.List.{[], ◌∷◌}
use lib.ListN.{length}
use Rattle.meaning.specs.Adder.{up_from}
use Rattle.laws.specs.Adder.Nets.{length-up_from}
use Rattle.bytes_out.specs.Laying.{Laying}
use Rattle.write_pieces.specs.Laying.{laying-none, laying-length, laying-room, laying_store, laying-all}
use Rattle.write_pieces.specs.Runs.{whole_run, rest-of-run, no_run}
use Rattle.write_pieces.proofs.bytes.run.Statement.{statement}
use Rattle.write_pieces.proofs.bytes.run.Tie as tie

abbrev invariant-loop : tie.invariant-loop-i
invariant-loop first count bytes₀ at at₀ i₀ bytes at' i =
    Laying (up_from first count) (up_from (first + i) (count - i)) bytes₀ at bytes at'

abbrev decreases-loop : tie.decreases-loop-i
decreases-loop first count bytes₀ at at₀ i₀ bytes at' i = count - i

loop-holds : tie.Need-loop-i-init invariant-loop decreases-loop
loop-holds c =
    laying-none c.args.bytes.now c.args.at
    (whole_run c.args.first c.args.count)
    (omega (arith, length-up_from c.args.first c.args.count))

-- In a turn a number is left, and there is room for it.
room : (c : tie.In-loop-i invariant-loop decreases-loop)
    → (length c.loop-i.bytes ≡ length c.args.bytes.now)
    × (c.loop-i.at + 1 ≤ length c.args.bytes.now)
room c =
    let args = c.args in
    laying-room c.loop-i.invariant (_ ∷ []) _
    (rest-of-run args.first args.count c.loop-i.i c.loop-i-test.true)

loop-again : tie.Need-loop-i-preserved invariant-loop decreases-loop
loop-again c =
    let args = c.args in
    laying_store c.loop-i.invariant (rest-of-run args.first args.count c.loop-i.i c.loop-i-test.true)

returns : tie.Need-returns invariant-loop decreases-loop
returns c =
    let args = c.args in
    laying-all c.loop-i.invariant (no_run args.first args.count c.loop-i.i c.loop-i-test.false)

pub run_spec : {M : Type 1} → statement M
run_spec =
    tie.close
    (tie.spec
    invariant-loop
    decreases-loop
    loop-holds
    (λ c. omega arith)
    (λ c. omega (arith, room c))
    (λ c. omega (arith, room c))
    (λ c. omega arith)
    (λ c. omega arith)
    loop-again
    (λ c. laying-length c.loop-i.invariant)
    returns)
