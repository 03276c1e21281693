-- `tally_engine::Tally::with_tally` meets its contract. The loop's invariant: the counts of the kinds passed are added, the others are
-- as they were. Assumes nothing.
use Prim.Native.Nat.{◌-◌}
use native.Mathlib.Omega.{arith}
use borrow.Author.Rules.{rules}
use lib.ListN.{get_or}
use Rattle.tally_engine.proofs.Counts.{Partly, partly_none, partly_fits, partly_more, partly_all}
use Rattle.tally_engine.proofs.Tally.with_tally.Statement.{statement}
use Rattle.tally_engine.proofs.Tally.with_tally.Tie as tie

abbrev invariant-loop : tie.invariant-loop-kind
invariant-loop self₀ other kind₀ self kind = Partly self₀.counts (λ each. get_or other.counts each 0) kind self.counts

abbrev decreases-loop : tie.decreases-loop-kind
decreases-loop self₀ other kind₀ self kind = 16 - kind

loop-holds : tie.Need-loop-kind-init invariant-loop decreases-loop
loop-holds c = partly_none _ _ (search rules)

add-self : tie.Need-overflow_add-self invariant-loop decreases-loop
add-self c =
    omega (arith, partly_fits (omega arith) c.requires c.loop-kind.invariant)

loop-again : tie.Need-loop-kind-preserved invariant-loop decreases-loop
loop-again c = partly_more (omega arith) c.loop-kind.invariant

returns : tie.Need-returns invariant-loop decreases-loop
returns c = partly_all (omega arith) c.loop-kind.invariant

pub with_tally_spec : {M : Type 1} → statement M
with_tally_spec =
    tie.close
    (tie.spec
    invariant-loop
    decreases-loop
    loop-holds
    (λ c. search rules)
    (λ c. search rules)
    (λ c. search rules)
    (λ c. search rules)
    add-self
    (λ c. search rules)
    (λ c. search rules)
    (λ c. search rules)
    loop-again
    returns)
