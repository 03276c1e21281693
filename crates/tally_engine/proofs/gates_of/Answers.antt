-- What `tally_engine::gates_of` meets: a turn of the loop sums one count of those ahead. Assumes nothing.
use Prim.Native.Nat.{ℕ, ◌+◌, ◌<◌}
use mathlib.Core.Path.{◌≡◌}
use mathlib.Core.List.{List}
use native.Mathlib.Omega.{arith}
use native.Mathlib.Numerals.{add-one}
use borrow.Author.Rules.{rules}
use lib.ListN.{length, get_or, drop}
use lib.Seq.{drop-cons, drop-length}
use Rattle.laws.specs.Figures.Tally.{total}
use Rattle.tally_engine.proofs.gates_of.Goals as goal

-- The counts from one on, and none behind the last.
from_one :
    (counts : List ℕ) (kind : ℕ)
    → kind < length counts
    → total (drop kind counts) ≡ get_or counts kind 0 + total (drop (kind + 1) counts)
unfolding total
from_one counts kind less = rw (add-one kind, drop-cons counts kind 0 less)

past_all : (counts : List ℕ) (kind : ℕ) → kind ≡ length counts → total (drop kind counts) ≡ 0
unfolding total
past_all counts kind e = rw (e, drop-length)

pub overflow_add-gates : goal.overflow_add-gates
overflow_add-gates c =
    let long : length c.args.tally.counts ≡ 16 = search rules in
    let split = from_one c.args.tally.counts c.loop-kind.kind (omega arith) in
    omega (arith, split, c.requires)

pub loop-kind-preserved : goal.loop-kind-preserved
loop-kind-preserved c =
    let long : length c.args.tally.counts ≡ 16 = search rules in
    let split = from_one c.args.tally.counts c.loop-kind.kind (omega arith) in
    omega (arith, split)

pub returns : goal.returns
returns c =
    let long : length c.args.tally.counts ≡ 16 = search rules in
    let none = past_all c.args.tally.counts c.loop-kind.kind (omega arith) in
    omega (arith, none)
