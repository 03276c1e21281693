-- How often a net is one of a run of nets: at most once.
use Prim.Native.Nat.{ℕ, zero, suc, ◌+◌, ◌-◌, ◌<◌, ◌≤◌}
use Rattle.std.specs.Prelude.{◌≡◌, Bool}
use Rattle.std.proofs.Math.Path.{refl}
use Rattle.std.proofs.Math.Bool.{true, false, cond}
use Rattle.std.proofs.Math.Nat.{add-zero}
use Rattle.std.proofs.Common.{zero-add}
use native.Mathlib.Omega.{arith}
use Rattle.std.proofs.Math.Dec.{eqb}
use borrow.Author.Tests.{eqb-true, ne_eqb}

module _ (net : ℕ) where
  unfoldable pub hits : ℕ → ℕ
  hits other = cond (eqb net other) 1 0

  hits-other : (other : ℕ) → (net ≡ other → ⊥) → hits other ≡ 0
  unfolding hits
  hits-other other apart = rw (ne_eqb net other apart)

  unfoldable pub hits_in : (first count : ℕ) → ℕ
  hits_in first zero = 0
  hits_in first (suc count) = hits first + hits_in (suc first) count

  pub hits_in-append : (first a b : ℕ) → hits_in first (a + b) ≡ hits_in first a + hits_in (first + a) b
  unfolding hits_in
  hits_in-append first zero b = rw (zero-add b, add-zero first) (omega arith)
  hits_in-append first (suc a) b =
      let more : suc a + b ≡ suc (a + b) = omega arith in
      let on : first + suc a ≡ suc first + a = omega arith in
      rw (more, on) (omega (arith, hits_in-append (suc first) a b))

  -- Two runs, one behind the other, in a run over both.
  pub hits_in-apart :
      (first a second b all : ℕ)
      → first + a ≤ second
      → second + b ≤ first + all
      → hits_in first a + hits_in second b ≤ hits_in first all
  hits_in-apart first a second b all low high =
      let between = second - (first + a) in
      let behind = first + all - (second + b) in
      let whole : all ≡ a + (between + (b + behind)) = omega arith in
      let place : first + a + between ≡ second = omega arith in
      rw whole
      (omega (
        arith,
        hits_in-append first a (between + (b + behind)),
        rw place at (hits_in-append (first + a) between (b + behind)),
        hits_in-append second b behind,
      ))

  pub hits-first : (first count : ℕ) → 1 ≤ count → hits first ≤ hits_in first count
  unfolding hits_in
  hits-first first zero some = absurd (omega arith)
  hits-first first (suc count) some = omega arith

  none_above : (first count : ℕ) → net < first → hits_in first count ≡ 0
  unfolding hits_in
  none_above first zero below = refl
  none_above first (suc count) below =
      omega (arith, hits-other first (λ e. omega arith), none_above (suc first) count (omega arith))

  pub hits_in-most : (first count : ℕ) → hits_in first count ≤ 1
  unfolding hits_in hits
  hits_in-most first zero = omega arith
  hits_in-most first (suc count) = go (eqb net first) refl (hits_in-most (suc first) count)
    where
      go : (b : Bool) → eqb net first ≡ b → hits_in (suc first) count ≤ 1 → cond b 1 0 + hits_in (suc first) count ≤ 1
      go true e rest =
          let same = eqb-true net first e in
          omega (arith, none_above (suc first) count (omega arith))
      go false e rest = omega arith
