-- The trees of the shape in time: where the p and g of bits are there one after a start, a carry that comes to step k of the spine by
-- 2k + 1 after it finds every P and G that it needs.
use Prim.Native.Nat.{ℕ, zero, suc, ◌+◌, ◌*◌, ◌<◌, ◌≤◌}
use Rattle.std.specs.Prelude.{◌≡◌}
use native.Mathlib.Omega.{arith}
use Rattle.meaning.specs.FastAdder.{AND3, leaf, leaves, p_net, grown, spine}
use Rattle.laws.specs.FastAdder.Times.{after-three, after_both, Timely, parts, Quick, leaf_quick, node_quick}

module _ (n : ℕ) (at : ℕ → ℕ) (start : ℕ)
    (bits : (i : ℕ) → i < n → (at (n + 1 + i) ≤ start + 1) × (at (n + 1 + i + n) ≤ start + 1)) where
  leaf-timely : (latest_p latest_g : ℕ) → start + 1 ≤ latest_p → start + 1 ≤ latest_g → Timely n at leaf latest_p latest_g
  unfolding p_net leaves
  leaf-timely latest_p latest_g p-late g-late =
      record { timely = λ s fits looks. let soon = bits s (omega arith) in (omega arith, omega arith) }

  -- G of a grown tree is there when it is grown to be, and P before.
  grown-timely :
      (u h latest_p latest_g : ℕ) → start + 1 ≤ latest_p → start + u ≤ suc latest_p → start + 1 ≤ latest_g → start + u ≤ latest_g
      → Timely n at (grown u h) latest_p latest_g
  unfolding grown leaves
  grown-timely zero h latest_p latest_g p-some p-late g_some g-late = leaf-timely latest_p latest_g p-some g_some
  grown-timely (suc zero) h latest_p latest_g p-some p-late g_some g-late = leaf-timely latest_p latest_g p-some g_some
  grown-timely (suc (suc zero)) h latest_p latest_g p-some p-late g_some g-late = leaf-timely latest_p latest_g p-some g_some
  grown-timely (suc (suc (suc u))) zero latest_p latest_g p-some p-late g_some g-late = leaf-timely latest_p latest_g p-some g_some
  grown-timely (suc (suc (suc u))) (suc h) latest_p latest_g p-some p-late g_some g-late =
      let time = start + suc u in
      let x = grown (suc u) (suc h) in
      let y = grown (suc u) h in
      let early-x = grown-timely (suc u) (suc h) time time (omega arith) (omega arith) (omega arith) (omega arith) in
      let early-y = grown-timely (suc u) h time time (omega arith) (omega arith) (omega arith) (omega arith) in
      let early-z = grown-timely (suc (suc u)) h time (suc time) (omega arith) (omega arith) (omega arith) (omega arith) in
      record {
        timely = λ s fits looks.
            let ps = parts n at looks in
            let soon-x = early-x.timely s (omega arith) ps.in_x in
            let soon-y = early-y.timely (s + leaves x) (omega arith) ps.in_y in
            let soon-z = early-z.timely (s + leaves x + leaves y) (omega arith) ps.in_z in
            let its-p = after-three AND3 time _ _ _ soon-x.0 soon-y.0 soon-z.0 in
            let its-g = after_both time _ _ _ _ _ soon-x.1 soon-y.0 soon-y.1 soon-z.0 soon-z.1 in
            (omega (arith, ps.its-p, its-p), omega (arith, ps.its-g, its-g));
      }

  -- A carry that comes to a grown tree no earlier than its G passes each of its nodes in two gates.
  grown_quick : (u h time bound : ℕ) → start + 1 ≤ time → start + u ≤ time → time + 2 * h ≤ bound → Quick n at (grown u h) time bound
  unfolding grown
  grown_quick zero h time bound some late enough = leaf_quick n at time bound
  grown_quick (suc zero) h time bound some late enough = leaf_quick n at time bound
  grown_quick (suc (suc zero)) h time bound some late enough = leaf_quick n at time bound
  grown_quick (suc (suc (suc u))) zero time bound some late enough = leaf_quick n at time bound
  grown_quick (suc (suc (suc u))) (suc h) time bound some late enough =
      node_quick n at time
      (grown-timely (suc u) (suc h) time time some (omega arith) some (omega arith))
      (grown-timely (suc u) h time (suc time) some (omega arith) (omega arith) (omega arith))
      bound
      (omega arith)
      (grown_quick (suc u) (suc h) time bound some (omega arith) enough)
      (grown_quick (suc u) h (suc (suc time)) bound (omega arith) (omega arith) (omega arith))
      (grown_quick (suc (suc u)) h (suc (suc time)) bound (omega arith) (omega arith) (omega arith))

  -- A carry comes to step k of the spine by 2k + 1 after the start.
  pub spine_quick : (k h bound : ℕ) → start + (2 * k + 1) + 2 * h ≤ bound → Quick n at (spine k h) (start + (2 * k + 1)) bound
  unfolding spine
  spine_quick k zero bound enough = leaf_quick n at (start + (2 * k + 1)) bound
  spine_quick k (suc h) bound enough =
      let time = start + (2 * k + 1) in
      let next : start + (2 * suc k + 1) ≡ suc (suc time) = omega arith in
      node_quick n at time
      (grown-timely (2 * k + 1) (suc h) time time (omega arith) (omega arith) (omega arith) (omega arith))
      (grown-timely (2 * k + 2) h time (suc time) (omega arith) (omega arith) (omega arith) (omega arith))
      bound
      (omega arith)
      (grown_quick (2 * k + 1) (suc h) time bound (omega arith) (omega arith) enough)
      (grown_quick (2 * k + 2) h (suc (suc time)) bound (omega arith) (omega arith) (omega arith))
      (rw next at (spine_quick (suc k) h bound (omega arith)))
