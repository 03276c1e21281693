-- `lanes::rows::take_row` meets its contract. The loop's invariant: the row is added in the words passed, and the others are as they were.
use Prim.Native.Nat.{ℕ, ◌-◌, ◌≤◌, ◌<◌}
use mathlib.Core.Path.{◌≡◌, subst}
use native.Mathlib.Omega.{arith}
use borrow.Author.Rules.{rules}
use lib.ListN.{length, get_or}
use Rattle.meaning.specs.Values.{value}
use Rattle.lanes.specs.Lanes.{surely, maybe}
use Rattle.lanes.specs.Words.{digit-small}
use Rattle.lanes.specs.Rows.{Light, Added, added_none, added_more}
use Rattle.lanes.proofs.rows.take_row.Statement.{statement}
use Rattle.lanes.proofs.rows.take_row.Tie as tie

abbrev invariant-loop : tie.invariant-loop-i
invariant-loop row low₀ high₀ i₀ i-end low high i = (i ≤ length row) × Added surely row low₀ low i × Added maybe row high₀ high i

abbrev decreases-loop : tie.decreases-loop-i
decreases-loop row low₀ high₀ i₀ i-end low high i = length row - i

-- What is known of the words in a turn.
record Here (i size word : ℕ) : Type 0 where
  inside : i < size
  light : word < 128

here : {f : _} {row old new : _} {i : ℕ} → Light (length row) old → Added f row old new i → i < length row → Here i (length new) (get_or new i 0)
here {i = i} l a h =
    record {
      inside = omega (arith, l.long, a.size);
      light = omega (arith, l.light i h, a.left i (omega arith));
    }

low-here : (c : tie.In-loop-i invariant-loop decreases-loop) → Here c.loop-i.i (length c.loop-i.low) (get_or c.loop-i.low c.loop-i.i 0)
low-here c = here c.requires.0 c.loop-i.invariant.1 c.loop-i-test.true

high-here : (c : tie.In-loop-i invariant-loop decreases-loop) → Here c.loop-i.i (length c.loop-i.high) (get_or c.loop-i.high c.loop-i.i 0)
high-here c = here c.requires.1 c.loop-i.invariant.2 c.loop-i-test.true

loop-again : tie.Need-loop-i-preserved invariant-loop decreases-loop
loop-again c =
    let loop = c.loop-i in (
      omega (arith, c.loop-i-test.true),
      added_more loop.invariant.1 (low-here c.before.before.before.before.before).inside _ c.sure.ensures,
      added_more loop.invariant.2 (high-here c.before.before.before.before.before).inside _ c.may.ensures,
    )

pub take_row_spec : {M : Type 1} → statement M
take_row_spec =
    tie.close
    (tie.spec
    invariant-loop
    decreases-loop
    (λ c. (omega arith, added_none, added_none))
    (λ c. omega arith)
    (λ c. let h = low-here c.before.before in omega arith)
    (λ c. let h = low-here c.before.before in omega arith)
    (λ c κs. search rules)
    (λ c. let h = low-here c.before.before.before in omega (arith, c.sure.ensures, digit-small (surely (value (get_or c.args.row.now c.loop-i.i 0)))))
    (λ c. let h = low-here c.before.before.before in omega arith)
    (λ c. let h = high-here c.before.before.before.before in omega arith)
    (λ c. let h = high-here c.before.before.before.before in omega arith)
    (λ c κs. search rules)
    (λ c. let h = high-here c.before.before.before.before.before in omega (arith, c.may.ensures, digit-small (maybe (value (get_or c.args.row.now c.loop-i.i 0)))))
    (λ c. let h = high-here c.before.before.before.before.before in omega arith)
    (λ c. omega arith)
    (λ c. omega arith)
    loop-again
    (λ c. c.loop-i.invariant.1.size)
    (λ c. c.loop-i.invariant.2.size)
    (λ c. let done : c.loop-i.i ≡ length c.args.row.now = omega arith in
    (subst (Added surely _ _ _) done c.loop-i.invariant.1, subst (Added maybe _ _ _) done c.loop-i.invariant.2)))
