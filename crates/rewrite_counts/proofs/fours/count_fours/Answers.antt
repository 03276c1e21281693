-- The modules are passed from the last on, and the counts of those behind are there. Assumes nothing.
use Rattle.std.proofs.Common.{ℕ, ◌+◌, ◌-◌, ◌≤◌, ◌<◌, ◌≡◌, List, length, subst, arith}
use Rattle.open_finding.specs.Here.{here-at}
use Rattle.rewrite_counts.specs.Fours.{Countable, Counted}
use Rattle.rewrite_counts.proofs.Filling.{counted_none, reaching, counted-more}
use Rattle.rewrite_counts.proofs.fours.count_fours.Goals as goal

-- The module at the position before k.
module _ {image starts : List ℕ} {modules a b k : ℕ} (s : Countable image starts modules a b) (some : 0 < k) (within : k ≤ modules) where
  low : k - 1 < length s.rs
  low = omega (arith, s.all)

  behind : {own reached : List ℕ} → Counted s.rs k own reached → Counted s.rs (k - 1 + 1) own reached
  behind {own} {reached} counted = let again : k ≡ k - 1 + 1 = omega arith in subst (λ (n : ℕ). Counted s.rs n own reached) again counted

pub loop-k-init : goal.loop-k-init
loop-k-init c s = counted_none s.rs _ _ _ (omega (arith, s.all)) s.reached_long

pub fours_of-found-requires : goal.fours_of-found-requires
fours_of-found-requires c =
    let s = c.requires in
    reaching s (low s c.loop-k-test.true c.loop-k.auto.k) (behind s c.loop-k-test.true c.loop-k.auto.k (c.loop-k.invariant s)).tabled

pub loop-k-preserved : goal.loop-k-preserved
loop-k-preserved c s =
    let inside = low s c.loop-k-test.true c.loop-k.auto.k in
    let counted = behind s c.loop-k-test.true c.loop-k.auto.k (c.loop-k.invariant s) in
    let found = c.fours_of-found.ensures (reaching s inside counted.tabled) in
    counted-more (here-at s.rs _ inside) _ _ counted (omega (arith, inside, s.own_long, c.loop-k.auto.own))
    (omega (arith, inside, s.reached_long, c.loop-k.auto.reached)) found.0 found.1

pub returns : goal.returns
returns c s = let none : c.loop-k.k ≡ 0 = omega arith in rw none at (c.loop-k.invariant s)
