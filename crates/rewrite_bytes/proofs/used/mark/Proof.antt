-- `rewrite_bytes::used::mark` meets its contract. The loop's invariant: the nets passed have the stamp. Assumes nothing.
use Prim.Native.Nat.{ℕ, ◌-◌}
use mathlib.Core.Path.{◌≡◌, refl, ◌∙◌}
use mathlib.Core.Bool.{Bool, ◌||◌, or-false}
use mathlib.Core.List.{[]}
use native.Mathlib.Omega.{arith}
use lib.ListN.{length, take, length-set}
use lib.Seq.{take_all}
use Rattle.meaning.specs.Boxlist.{member}
use Rattle.rewrite_bytes.specs.Used.{Stamped}
use Rattle.rewrite_bytes.proofs.Stamping.{stamped-same, marked_more}
use Rattle.rewrite_bytes.proofs.used.mark.Statement.{statement}
use Rattle.rewrite_bytes.proofs.used.mark.Tie as tie

abbrev invariant-loop : tie.invariant-loop-i
invariant-loop list table₀ stamp i₀ i-end table i =
    (length table ≡ length table₀)
    × ((used : ℕ → Bool) → Stamped table₀ stamp used → Stamped table stamp (λ x. used x || member x (take i list)))

abbrev decreases-loop : tie.decreases-loop-i
decreases-loop list table₀ stamp i₀ i-end table i = i-end - i

pub mark_spec : {M : Type 1} → statement M
unfolding member
mark_spec =
    tie.close
    (tie.spec
    invariant-loop
    decreases-loop
    (λ c. (refl, λ used s. stamped-same used (λ x. used x || member x []) (λ x. or-false (used x)) s))
    (λ c. omega (arith, c.loop-i-test.true))
    (λ c. c.loop-i-test.true)
    (λ c. omega (arith, c.shared_slice_known-1.given c.loop-i.i))
    (λ c. omega (arith, c.requires.below c.loop-i.i c.loop-i-test.true, c.loop-i.invariant.0))
    (λ c. omega (arith, c.loop-i-test.true))
    (λ c. omega (arith, c.loop-i-test.true))
    (λ c.
    let more = c.loop-i-test.true in (
      length-set c.loop-i.table _ _ ∙ c.loop-i.invariant.0,
      λ used s.
          marked_more c.args.list.now c.loop-i.i used more
          (omega (arith, c.requires.below c.loop-i.i more, c.loop-i.invariant.0)) (c.loop-i.invariant.1 used s),
    ))
    (λ c. c.loop-i.invariant.0)
    (λ c used s.
    rw (take_all c.loop-i.i c.args.list.now c.loop-i-test.false) at (c.loop-i.invariant.1 used s)))
