-- The modules are passed from the last on: one that is over is the last one, and the verdict on all is its refusal. Assumes nothing.
use Rattle.std.proofs.Common.{ℕ, ◌+◌, ◌-◌, ◌≤◌, ◌<◌, ◌≡◌, List, length, drop, subst, arith}
use native.Mathlib.Nat.{zero-add}
use Rattle.meaning.specs.Verdict.{good, sizes_verdict}
use Rattle.meaning.specs.Withdrawn.{rewrite_file}
use Rattle.open_finding.specs.Here.{here-at}
use Rattle.rewrite_counts.specs.Ceilings.{Sized}
use Rattle.rewrite_counts.proofs.Deciding.{large-here, small-here, large-whole, small-left}
use Rattle.rewrite_counts.proofs.ceilings.last_large.Goals as goal

-- The module at the position before k.
module _ {sizes reached : List ℕ} {modules k : ℕ} (s : Sized sizes reached modules) (some : 0 < k) (within : k ≤ modules) where
  inside : k - 1 < length s.ms
  inside = omega (arith, s.all)

  behind :
      sizes_verdict k (rewrite_file (drop k s.ms)) ≡ good
      → sizes_verdict (k - 1 + 1) (rewrite_file (drop (k - 1 + 1) s.ms)) ≡ good
  behind kept =
      let again : k ≡ k - 1 + 1 = omega arith in subst (λ (n : ℕ). sizes_verdict n (rewrite_file (drop n s.ms)) ≡ good) again kept

pub loop-k-init : goal.loop-k-init
loop-k-init c s = small-left s.ms _ (omega (arith, s.all))

pub returns-then-sizes-k-gt65535 : goal.returns-then-sizes-k-gt65535
returns-then-sizes-k-gt65535 c s =
    let k : ℕ = c.loop-k.k - 1 in
    let h = here-at s.ms k (inside s c.loop-k-test.true c.loop-k.auto.k) in
    large-whole 0 k s.ms
    (rw (zero-add k)
    (large-here h (behind s c.loop-k-test.true c.loop-k.auto.k (c.loop-k.invariant s))
    (omega (arith, s.size k h.m h.later h.here, s.reach k h.m h.later h.here))))

pub loop-k-preserved : goal.loop-k-preserved
loop-k-preserved c s =
    let k : ℕ = c.loop-k.k - 1 in
    let h = here-at s.ms k (inside s c.loop-k-test.true c.loop-k.auto.k) in
    small-here h (behind s c.loop-k-test.true c.loop-k.auto.k (c.loop-k.invariant s))
    (omega (arith, s.size k h.m h.later h.here, s.reach k h.m h.later h.here))

pub returns : goal.returns
returns c s = let none : c.loop-k.k ≡ 0 = omega arith in rw none at (c.loop-k.invariant s)
