-- Which nets stand in a run of numbers, one after the other.
use Rattle.std.specs.Prelude.{ℕ, zero, suc, ◌+◌, ◌≤◌, ◌<◌}
use Rattle.std.proofs.Common.{arith}
use Rattle.meaning.specs.Members.{◌∈◌}
use Rattle.meaning.specs.Adder.{up_from}
use Rattle.laws.specs.Tests.{if_true}
use Rattle.laws.specs.Members.{here, there, in-none, member-tells}
use Rattle.laws.specs.Adder.Distinct.{member-of-run}

pub record Between (first end x : ℕ) : Type 0 where
  pub from : first ≤ x
  pub below : x < end

pub of-run : (first count : ℕ) {x : ℕ} → x ∈ up_from first count → Between first (first + count) x
unfolding up_from
of-run first zero i = absurd (in-none i)
of-run first (suc n) (here e) = omega arith
of-run first (suc n) (there i) = let b = of-run (suc first) n i in omega arith

pub in_run : (first count x : ℕ) → Between first (first + count) x → x ∈ up_from first count
in_run first count x b = if_true (member-tells x (up_from first count)) (member-of-run x first count b.from b.below)

pub below-run : (count x : ℕ) → x ∈ up_from 0 count → x < count
below-run count x i = omega (arith, of-run 0 count i)
