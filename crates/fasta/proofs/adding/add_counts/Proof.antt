-- The entries that were passed are sums, those behind are as they were.
use Rattle.std.proofs.Common.{◌≡◌, ℕ, ◌+◌, ◌-◌, ◌<◌, ◌≤◌, List, length, get_or, set, sym, refl, ap, ◌∙◌, arith, length-set, get_or-set_other, get_or-set_same, rules, below_none, below_more}
use Rattle.fasta.specs.Steps.{low}
use Rattle.fasta.proofs.Summing.{added}
use Rattle.fasta.proofs.adding.add_counts.Statement.{statement}
use Rattle.fasta.proofs.adding.add_counts.Tie as tie

record Adds (counts start table : List ℕ) (i : ℕ) : Type 0 where
  most : i ≤ 33
  same : length table ≡ length start
  passed : (k : ℕ) → k < i → get_or table k 0 ≡ low (get_or start k 0 + get_or counts k 0)
  left : (k : ℕ) → i ≤ k → get_or table k 0 ≡ get_or start k 0

adds-more : {counts start table : List ℕ} {i v : ℕ} → Adds counts start table i → i < 33 → i < length table
    → v ≡ low (get_or table i 0 + get_or counts i 0) → Adds counts start (set table i v) (i + 1)
adds-more {counts} {start} {table} {i} {v} a more inside is =
    record {
      most = omega arith;
      same = simp length-set a.same;
      passed =
          below_more (λ k. get_or (set table i v) k 0 ≡ low (get_or start k 0 + get_or counts k 0)) i
          (λ k h. get_or-set_other table i k v 0 (λ e. omega arith) ∙ a.passed k h)
          (get_or-set_same table i v 0 inside ∙ rw (a.left i (omega arith)) at is);
      left = λ k h. get_or-set_other table i k v 0 (λ e. omega arith) ∙ a.left k (omega arith);
    }

abbrev invariant-loop : tie.invariant-loop-i
invariant-loop counts table₀ i₀ table i = Adds counts table₀ table i

abbrev decreases-loop : tie.decreases-loop-i
decreases-loop counts table₀ i₀ table i = 33 - i

abbrev entry : tie.At-loop-i invariant-loop decreases-loop → tie.Start invariant-loop decreases-loop
entry c = c.before.before.before

abbrev turn : tie.After-wrapping_add_u64 invariant-loop decreases-loop → tie.In-loop-i invariant-loop decreases-loop
turn c = c.before.before.before.before

-- The entry of a turn is one of the table's.
inside : (c : tie.In-loop-i invariant-loop decreases-loop) → c.loop-i.i < length c.loop-i.table
inside c = omega (arith, c.requires.1, c.loop-i.invariant.same, c.loop-i-test.true)

loop-again : tie.Need-loop-i-preserved invariant-loop decreases-loop
loop-again c =
    let l = c.loop-i in
    adds-more l.invariant c.loop-i-test.true (inside c.before.before.before.before)
    (c.wrapping_add_u64.ensures ∙ ap (λ (x : ℕ). low (get_or l.table l.i 0 + x)) c.wide.ensures)

returns : tie.Need-returns invariant-loop decreases-loop
returns c sums is =
    let l = c.loop-i in
    added c.args.table.now c.args.counts.now l.table sums l.invariant.same (c.requires.1 ∙ sym c.requires.0)
    (λ k h. l.invariant.passed k (omega (arith, c.loop-i-test.false, c.requires.1))) is

pub add_counts_spec : {M : Type 1} → statement M
add_counts_spec =
    tie.close
    (tie.spec
    invariant-loop
    decreases-loop
    (λ c. record { most = omega arith; same = refl; passed = below_none _; left = λ k h. refl })
    (λ c. omega arith)
    (λ c. omega (arith, inside c.before))
    (λ c. omega arith)
    (λ c. omega (arith, c.requires.0))
    (λ c κs. search rules)
    (λ c κs. search rules)
    (λ c. omega arith)
    (λ c. omega (arith, inside c.before.before.before.before))
    (λ c. omega arith)
    (λ c. omega arith)
    loop-again
    (λ c. c.loop-i.invariant.same)
    returns)
