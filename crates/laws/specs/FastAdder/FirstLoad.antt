-- How much any net drives in module 40, where no input and no output of module 41 drives more than so much inside it.
use Prim.Native.Nat.{ℕ, zero, suc, ◌+◌, ◌*◌, ◌≤◌, max}
use Rattle.std.specs.Prelude.{◌≡◌, true}
use Rattle.std.proofs.Math.Path.{refl}
use Rattle.std.proofs.Common.{mul-zero, mul-one}
use native.Mathlib.Omega.{arith}
use Rattle.meaning.specs.Syntax.{Occurrence}
use Rattle.meaning.specs.Gates.{is_gate}
use Rattle.meaning.specs.Counter.{gate_on, AND, XOR}
use Rattle.meaning.specs.FastAdder.{gate_row, carries_ahead, fast_module}
use Rattle.laws.specs.FastAdder.Counting.{total, total-append}
use Rattle.laws.specs.FastAdder.Hits.{hits, hits_in, hits_in-append, hits_in-apart, hits_in-most}

module _ (net : ℕ) (load : Occurrence → ℕ)
    (at-gate : (kind drives a b : ℕ) → is_gate kind ≡ true → load (gate_on drives kind a b) ≡ hits net a + hits net b) where
  row-load :
      (kind : ℕ) → is_gate kind ≡ true → (drives a b count : ℕ)
      → total load (gate_row kind drives a b count) ≡ hits_in net a count + hits_in net b count
  unfolding gate_row total hits_in
  row-load kind is drives a b zero = refl
  row-load kind is drives a b (suc count) =
      omega (arith, at-gate kind drives a b is, row-load kind is (suc drives) (suc a) (suc b) count)

  module _ (n most : ℕ)
      (at_module :
      load (carries_ahead n)
      ≤ most * (hits_in net 0 (n + 1) + hits_in net (3 * n + 1) (2 * n))) where
    one_of_all : hits_in net 0 (n + 1) + (hits_in net (n + 1) n + hits_in net (2 * n + 1) n) + hits_in net (3 * n + 1) (2 * n) ≤ 1
    one_of_all =
        omega (
          arith,
          hits_in-most net 0 (5 * n + 1),
          hits_in-apart net 0 (n + 1) (n + 1) (4 * n) (5 * n + 1) (omega arith) (omega arith),
          hits_in-apart net (n + 1) n (2 * n + 1) (3 * n) (4 * n) (omega arith) (omega arith),
          hits_in-apart net (2 * n + 1) n (3 * n + 1) (2 * n) (3 * n) (omega arith) (omega arith),
        )

    parts : total load (fast_module n).occurrences
        ≤ 2 * (hits_in net (n + 1) n + hits_in net (2 * n + 1) n)
        + most * (hits_in net 0 (n + 1) + hits_in net (3 * n + 1) (2 * n))
        + (hits_in net 0 (n + 1) + hits_in net (3 * n + 1) (2 * n))
    unfolding fast_module total
    parts =
        let double : n + n ≡ 2 * n = omega arith in
        simp total-append
        (omega (
          arith,
          row-load XOR refl (3 * n + 1) (n + 1) (2 * n + 1) n,
          row-load AND refl (4 * n + 1) (n + 1) (2 * n + 1) n,
          row-load XOR refl (5 * n + 1) (3 * n + 1) 0 n,
          at_module,
          hits_in-append net 0 n 1,
          rw double at (hits_in-append net (3 * n + 1) n n),
        ))

    pub first_load : total load (fast_module n).occurrences ≤ max 2 (most + 1)
    first_load = go (hits_in net 0 (n + 1) + hits_in net (3 * n + 1) (2 * n)) refl parts
      where
        go :
            (h : ℕ)
            → hits_in net 0 (n + 1) + hits_in net (3 * n + 1) (2 * n) ≡ h
            → total load (fast_module n).occurrences ≤ 2 * (hits_in net (n + 1) n + hits_in net (2 * n + 1) n) + most * h + h
            → total load (fast_module n).occurrences ≤ max 2 (most + 1)
        go zero e by = omega (arith, one_of_all, mul-zero most)
        go (suc zero) e by = omega (arith, one_of_all, mul-one most)
        go (suc (suc h)) e by = absurd (omega (arith, one_of_all))
