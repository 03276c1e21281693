-- `lanes::rows::store` meets its contract. The loop's invariant: the entries passed are made.
use Prim.Native.Nat.{ℕ, ◌-◌, ◌≤◌, ◌<◌}
use mathlib.Core.Path.{◌≡◌, subst}
use native.Mathlib.Omega.{arith}
use lib.ListN.{length}
use Rattle.lanes.specs.Storing.{entry_of, Stored, stored-none, stored_more}
use Rattle.lanes.proofs.rows.store.Statement.{statement}
use Rattle.lanes.proofs.rows.store.Tie as tie

abbrev invariant-loop : tie.invariant-loop-j
invariant-loop n a b c d s t u v entries₀ j₀ entries j = (j ≤ n) × Stored (entry_of a b c d s t u v) entries₀ entries j

abbrev decreases-loop : tie.decreases-loop-j
decreases-loop n a b c d s t u v entries₀ j₀ entries j = n - j

-- The net of a turn is one of each list.
record Here (j size a-size b-size c-size d-size s-size t-size u-size v-size : ℕ) : Type 0 where
  inside : j < size
  a_in : j < a-size
  b-in : j < b-size
  c-in : j < c-size
  d-in : j < d-size
  s-in : j < s-size
  t-in : j < t-size
  u-in : j < u-size
  v-in : j < v-size

here :
    (c : tie.In-loop-j invariant-loop decreases-loop)
    → let g = c.args in
    Here c.loop-j.j (length c.loop-j.entries) (length g.a.now) (length g.b.now) (length g.c.now) (length g.d.now) (length g.s.now) (length g.t.now) (length g.u.now) (length g.v.now)
here c =
    let p = c.requires in
    record {
      inside = omega (arith, c.loop-j-test.true, p.2, c.loop-j.invariant.1.size);
      a_in = omega (arith, c.loop-j-test.true, p.0.a-long);
      b-in = omega (arith, c.loop-j-test.true, p.0.b-long);
      c-in = omega (arith, c.loop-j-test.true, p.0.c-long);
      d-in = omega (arith, c.loop-j-test.true, p.0.d-long);
      s-in = omega (arith, c.loop-j-test.true, p.1.a-long);
      t-in = omega (arith, c.loop-j-test.true, p.1.b-long);
      u-in = omega (arith, c.loop-j-test.true, p.1.c-long);
      v-in = omega (arith, c.loop-j-test.true, p.1.d-long);
    }

pub store_spec : {M : Type 1} → statement M
store_spec =
    tie.close
    (tie.spec
    invariant-loop
    decreases-loop
    (λ c. (omega arith, stored-none))
    (λ c. let h = here c in omega arith)
    (λ c. (here c.before).a_in)
    (λ c. let h = here c.before in omega arith)
    (λ c. (here c.before.before).b-in)
    (λ c. let h = here c.before.before in omega arith)
    (λ c. (here c.before.before.before).c-in)
    (λ c. let h = here c.before.before.before in omega arith)
    (λ c. (here c.before.before.before.before).d-in)
    (λ c. let h = here c.before.before.before.before in omega arith)
    (λ c. (here c.before.before.before.before.before).s-in)
    (λ c. let h = here c.before.before.before.before.before in omega arith)
    (λ c. (here c.before.before.before.before.before.before).t-in)
    (λ c. let h = here c.before.before.before.before.before.before in omega arith)
    (λ c. (here c.before.before.before.before.before.before.before).u-in)
    (λ c. let h = here c.before.before.before.before.before.before.before in omega arith)
    (λ c. (here c.before.before.before.before.before.before.before.before).v-in)
    (λ c. let h = here c.before.before.before.before.before.before.before.before in omega arith)
    (λ c. (here c.before.before.before.before.before.before.before.before).inside)
    (λ c. omega arith)
    (λ c. omega arith)
    (λ c. (omega (arith, c.loop-j-test.true), stored_more c.loop-j.invariant.1 (here c.before.before.before.before.before.before.before.before).inside))
    (λ c. c.loop-j.invariant.1.size)
    (λ c.
    let done : c.loop-j.j ≡ c.args.n = omega (arith, c.loop-j.invariant.0) in
    subst (Stored _ _ _) done c.loop-j.invariant.1))
