-- `lanes::outputs::give_row` meets its contract. The loop's invariant: the values passed are given.
use Prim.Native.Nat.{ℕ, ◌-◌, ◌*◌, ◌/◌, ◌%◌, ◌^◌, ◌≤◌, ◌<◌}
use mathlib.Core.Path.{◌≡◌, subst}
use native.Mathlib.Omega.{arith}
use lib.ListN.{length, get_or}
use Rattle.lanes.specs.Giving.{Given, digits, Giving, giving-none, giving-more, giving-all}
use Rattle.lanes.proofs.outputs.give_row.Statement.{statement}
use Rattle.lanes.proofs.outputs.give_row.Tie as tie

abbrev invariant-loop : tie.invariant-loop-j
invariant-loop row low high out₀ j₀ j-end out j =
    (j ≤ length out₀) × ((g : Given row low high (length out₀)) → Giving g.values out₀ out j)

abbrev decreases-loop : tie.decreases-loop-j
decreases-loop row low high out₀ j₀ j-end out j = length out₀ - j

-- What is known in a turn: the word's two digits make up the value.
record Here (j low-size high-size out-size low high : ℕ) : Type 0 where
  low-in : j < low-size
  high-in : j < high-size
  out-in : j < out-size
  below : low ≤ high * 2

here :
    (c : tie.In-loop-j invariant-loop decreases-loop)
    → let a = c.args in
    let j = c.loop-j.j in
    Here j (length a.low.now) (length a.high.now) (length c.loop-j.out) (get_or a.low.now j 0 / 2 ^ a.row % 2)
    (get_or a.high.now j 0 / 2 ^ a.row % 2)
here c =
    let g = c.requires.1 in
    let inv = c.loop-j.invariant.1 g in
    record {
      low-in = omega (arith, c.loop-j-test.true, g.low-long);
      high-in = omega (arith, c.loop-j-test.true, g.high-long);
      out-in = omega (arith, c.loop-j-test.true, inv.size);
      below = (digits (g.lanes c.loop-j.j c.loop-j-test.true)).below;
    }

loop-again : tie.Need-loop-j-preserved invariant-loop decreases-loop
loop-again c =
    let loop = c.loop-j in (
      omega (arith, c.loop-j-test.true),
      λ g. giving-more (loop.invariant.1 g) (here c.before.before).out-in _ (digits (g.lanes loop.j c.loop-j-test.true)).is,
    )

pub give_row_spec : {M : Type 1} → statement M
give_row_spec =
    tie.close
    (tie.spec
    invariant-loop
    decreases-loop
    (λ c. (omega arith, λ g. giving-none))
    (λ c. (here c.before).high-in)
    (λ c. c.requires.0)
    (λ c. omega arith)
    (λ c. (here c.before.before).low-in)
    (λ c. c.requires.0)
    (λ c. let h = here c.before.before in omega arith)
    (λ c. (here c.before.before).out-in)
    (λ c. omega arith)
    (λ c. omega arith)
    loop-again
    (λ c. (c.loop-j.invariant.1 c.requires.1).size)
    (λ c g.
    let done : c.loop-j.j ≡ length c.args.out.now = omega (arith, c.loop-j.invariant.0) in
    giving-all g.count (subst (Giving _ _ _) done (c.loop-j.invariant.1 g))))
