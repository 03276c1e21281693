-- `lanes::rows::feed` meets its contract. The loop's invariant: the words passed are fed, and the others are as they were.
use Prim.Native.Nat.{ℕ, ◌-◌, ◌≤◌, ◌<◌}
use mathlib.Core.Path.{◌≡◌, subst}
use native.Mathlib.Omega.{arith}
use borrow.Author.Rules.{rules}
use lib.ListN.{length, get_or}
use Rattle.lanes.specs.Feeding.{Fed, fed-none, fed-more}
use Rattle.lanes.proofs.rows.feed.Statement.{statement}
use Rattle.lanes.proofs.rows.feed.Tie as tie

abbrev invariant-loop : tie.invariant-loop-i
invariant-loop n bytes words₀ i₀ words i = (i ≤ n) × Fed bytes words₀ words i

abbrev decreases-loop : tie.decreases-loop-i
decreases-loop n bytes words₀ i₀ words i = n - i

record Here (i bytes-size size word : ℕ) : Type 0 where
  byte-in : i < bytes-size
  inside : i < size
  light : word < 72057594037927936

here :
    (c : tie.In-loop-i invariant-loop decreases-loop)
    → let l = c.loop-i in
    Here l.i (length c.args.bytes.now) (length l.words) (get_or l.words l.i 0)
here c =
    let p = c.requires in
    let l = c.loop-i in
    record {
      byte-in = omega (arith, c.loop-i-test.true, p.bytes-long);
      inside = omega (arith, c.loop-i-test.true, p.long, l.invariant.1.size);
      light = omega (arith, p.light l.i c.loop-i-test.true, l.invariant.1.left l.i (omega arith));
    }

pub feed_spec : {M : Type 1} → statement M
feed_spec =
    tie.close
    (tie.spec
    invariant-loop
    decreases-loop
    (λ c. (omega arith, fed-none))
    (λ c. let h = here c in omega arith)
    (λ c. (here c.before).inside)
    (λ c. let h = here c.before in omega arith)
    (λ c. (here c.before.before).byte-in)
    (λ c κs. search rules)
    (λ c. let h = here c.before.before.before in omega (arith, c.wide.ensures.1))
    (λ c. let h = here c.before.before.before in omega arith)
    (λ c. (here c.before.before.before).inside)
    (λ c. omega arith)
    (λ c. omega arith)
    (λ c.
    (omega (arith, c.loop-i-test.true), fed-more c.loop-i.invariant.1 (here c.before.before.before).inside _ c.wide.ensures.0))
    (λ c. c.loop-i.invariant.1.size)
    (λ c.
    let done : c.loop-i.i ≡ c.args.n = omega (arith, c.loop-i.invariant.0) in
    subst (Fed _ _ _) done c.loop-i.invariant.1))
